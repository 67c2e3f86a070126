pub mod FlowTables
pub mod FlowRun
pub mod FlowStatements
pub mod CaseFlows
pub mod TablesView
pub mod Made
pub mod EvidenceText

-- Studies as contracts see them.
use Rattle.entangled.specs.CaseNetView.{case_state}
use Rattle.staged_levels.specs.StudyContents.{StudyContent}
use Rattle.staged_levels.specs.declared.study.Study.{Study}

-- what a study holds
unfoldable pub study : Study → StudyContent
study s = record {
  spends = s.spends;
  count = s.count;
  alpha = s.alpha;
  state = case_state s.net;
  looks = record { values = s.values.items; rejected = s.settled.items };
}

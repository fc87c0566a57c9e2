-- The functions that the contracts fix: each public call's `ensures` says that its answer and its lent buffers are these.
use Rattle.sheet.specs.Reading.{read}
use Rattle.sheet.specs.Label.{label}
use Rattle.views.specs.Judgement.{judgement_of}
use Rattle.needs.specs.Answered.{needed_of, list_of}
use Rattle.purge.specs.Purged.{purged_of}
use Rattle.reach.specs.Answered.{answer_of}
use Rattle.zarpalume.specs.Verdict.{call_of}
use Rattle.demands.specs.Calls.{Calls}

abbrev pub ours : Calls
ours = record {
  read = read;
  label = label;
  judge = judgement_of;
  needed = λ m next outputs list. (needed_of m next outputs list, list_of m next outputs list);
  purged = purged_of;
  reached = answer_of;
  verdict = call_of;
}

-- The demands hold of our calls.
-- Assumes nothing.
use mathlib.Core.Logic.{⊎_elim}
use Rattle.laws.proofs.Tables.{length_tabulate}
use Rattle.model.specs.Limits.{BOXES}
use Rattle.model.proofs.Good.{model_table_good, table_good}
use Rattle.views.proofs.Sound.{accepted_exactly, accepted_or_place, first_place, accepted_secure}
use Rattle.needs.proofs.Demand as needs
use Rattle.needs.specs.Answered.{found_in}
use Rattle.model.specs.Denoted.{machine_of}
use Rattle.demands.specs.Demands.{Demand1, Demand2, Demand3}
use Rattle.demands.specs.Ours.{ours}
use Rattle.demands.proofs.Refusing.{judge_lengths, needed_lengths, judge_refused, needed_refused, reached_refused, purged_refused}
use Rattle.demands.proofs.Reading.{read_refused, read_whole, label_refused, verdict_refused}

pub demand_1 : Demand1 ours
demand_1 = record {
  read = read_refused;
  read_then = read_whole;
  label = label_refused;
  judge = judge_refused;
  needed = λ m next outputs list. (needed_refused m next outputs list).0;
  needed_then = λ m next outputs list. (needed_refused m next outputs list).1;
  purged = λ m kind position run kept. (purged_refused m kind position run kept).0;
  purged_then = λ m kind position run kept. (purged_refused m kind position run kept).1;
  reached = reached_refused;
  verdict = verdict_refused;
}

pub demand_2 : Demand2 ours.judge
demand_2 = record {
  accepted = λ m next outputs views h g. accepted_exactly m next outputs views ((judge_lengths next outputs views).1 h) ((model_table_good m next).1 g);
  broken = λ m next outputs views h g k.
      ⊎_elim (λ e. absurd (k e)) (λ p. (p.0, p.1, first_place m next outputs views p.0 p.1))
      (accepted_or_place m next outputs views ((judge_lengths next outputs views).1 h) ((model_table_good m next).1 g));
  meaning = λ m next outputs views h g e. accepted_secure m next outputs views e;
}

pub demand_3 : Demand3 ours.needed
demand_3 = record {
  found = λ m next outputs list h g.
      let d = needs.demand_3 m next outputs list ((needed_lengths next outputs list).1 h) ((table_good m next).1 g) in
      (found_in (machine_of m next outputs), d.0, length_tabulate BOXES _, d.1);
}

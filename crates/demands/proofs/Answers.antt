-- Our calls answer good input as said.
-- Assumes nothing.
use mathlib.Core.Path.{◌≡◌, refl, sym, ap, ◌∙◌}
use mathlib.Core.List.{List}
use Prim.Native.Nat.{ℕ}
use lib.ListN.{length}
use borrow.Author.Tests.{eq-eqb}
use Rattle.laws.proofs.Tests.{choose_yes}
use Rattle.model.specs.Good.{GoodMachine, GoodDrawing}
use Rattle.model.specs.declared.Model.{Model}
use Rattle.model.proofs.Good.{model_good, table_good}
use Rattle.sheet.specs.Reading.{given}
use Rattle.purge.specs.Purged.{kept_of, written, purged_of}
use Rattle.model.specs.declared.Kind.{Kind}
use Rattle.zarpalume.specs.Verdict.{call_of}
use Rattle.demands.specs.Refusals.{Question}
use Rattle.demands.specs.Answers.{Answers}
use Rattle.demands.specs.Ours.{ours}
use Rattle.demands.proofs.Refusing.{question_test, reached_chosen}
use Rattle.demands.proofs.Reading.{right, label_found_lem}

purged_good : (m : Model) (kind : Kind) (position : ℕ) (run kept : List ℕ) →
    length kept ≡ length run → GoodMachine m.machine × GoodDrawing m → Question m position run →
    purged_of m kind position run kept ≡ written (kept_of m kind position run) (length run)
unfolding purged_of
purged_good m kind position run kept l g q =
    sym (choose_yes _ (eq-eqb _ _ l) (choose_yes _ ((model_good m).1 g) (choose_yes _ ((question_test m kind position run kept).1 q) refl)))

pub answers : Answers ours
unfolding call_of
answers = record {
  read = λ t next outputs views z p h e. right t next outputs views h ∙ ap given e;
  label = λ t position z p e h. label_found_lem t position z p e h;
  purged = purged_good;
  reached = λ m next l g. reached_chosen m next ∙ sym (choose_yes _ (eq-eqb _ _ l) (choose_yes _ ((table_good m next).1 g) (choose_yes _ refl refl)));
  verdict = λ t buffer l. sym (choose_yes _ (eq-eqb _ _ l) refl);
}

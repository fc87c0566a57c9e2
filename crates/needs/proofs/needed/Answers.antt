-- `needs::needed` meets its contract.
use Rattle.std.proofs.Common.{rules, ◌≡◌, sym, ◌∙◌, ap, length, true}
use Rattle.std.specs.Prelude.{eqb, Err}
use Rattle.model.specs.Limits.{NEXT_ENTRIES, OUTPUT_ENTRIES, LIST_ENTRIES}
use Rattle.needs.proofs.Answering.{lengths_all}
use Rattle.std.specs.Prelude.{Ok, replicate}
use Rattle.model.proofs.Good.{table_good}
use borrow.Author.Tests.{eqb-true}
use Rattle.reach.specs.Answered.{answer_of}
use Rattle.reach.proofs.Told.{found_says, refused_breaks}
use Rattle.needs.proofs.Answering.{needed_rules, list_rules, needed_found, list_found, known_of}
use Rattle.needs.proofs.needed.Goals as goal

pub returns-in_err-reached-clause-value : goal.returns-in_err-reached-clause-value
returns-in_err-reached-clause-value c =
    let a : eqb (length c.args.outputs.now) OUTPUT_ENTRIES ≡ true = search rules in
    let b : eqb (length c.args.list.now) LIST_ENTRIES ≡ true = search rules in
    let d : eqb (length c.args.next.now) NEXT_ENTRIES ≡ true = search rules in
    let e = lengths_all c.args.next.now c.args.outputs.now c.args.list.now a b d in
    let o : answer_of c.args.machine c.args.next.now ≡ Err c.in_err-reached.field-0.0 = search rules in
    let f = refused_breaks c.args.machine c.args.next.now _ (eqb-true _ _ d) o in
    let r : c.from_residual-in_err-reached.result ≡ Err c.in_err-reached.field-0.0 = search rules in
    r ∙ ap Err f.1 ∙ sym (needed_rules _ _ _ _ e f.0)

pub returns-in_err-reached-clause-list_after : goal.returns-in_err-reached-clause-list_after
returns-in_err-reached-clause-list_after c =
    let a : eqb (length c.args.outputs.now) OUTPUT_ENTRIES ≡ true = search rules in
    let b : eqb (length c.args.list.now) LIST_ENTRIES ≡ true = search rules in
    let d : eqb (length c.args.next.now) NEXT_ENTRIES ≡ true = search rules in
    let e = lengths_all c.args.next.now c.args.outputs.now c.args.list.now a b d in
    let o : answer_of c.args.machine c.args.next.now ≡ Err c.in_err-reached.field-0.0 = search rules in
    let f = refused_breaks c.args.machine c.args.next.now _ (eqb-true _ _ d) o in
    let z : c.fill.new.self ≡ replicate LIST_ENTRIES 0 = search rules in
    z ∙ sym (list_rules _ _ _ _ e f.0)

pub invariant_of-tables : goal.invariant_of-tables
invariant_of-tables c =
    let a : length c.args.outputs.now ≡ OUTPUT_ENTRIES = search rules in
    let o : answer_of c.args.machine c.args.next.now ≡ Ok c.in_ok-reached.reached = search rules in
    let s = found_says c.args.machine c.args.next.now _ o in
    record { fitting = record { good = (table_good _ _).0 s.fits; next_long = s.long; outputs_long = a } }

pub found-requires-clause-known : goal.found-requires-clause-known
found-requires-clause-known c =
    let o : answer_of c.args.machine c.args.next.now ≡ Ok c.in_ok-reached.reached = search rules in
    let s = found_says c.args.machine c.args.next.now _ o in
    known_of c.args.machine c.args.next.now c.args.outputs.now _ s.long s.fits s.flags

pub returns-clause-value : goal.returns-clause-value
returns-clause-value c =
    let a : eqb (length c.args.outputs.now) OUTPUT_ENTRIES ≡ true = search rules in
    let b : eqb (length c.args.list.now) LIST_ENTRIES ≡ true = search rules in
    let d : eqb (length c.args.next.now) NEXT_ENTRIES ≡ true = search rules in
    let e = lengths_all c.args.next.now c.args.outputs.now c.args.list.now a b d in
    let o : answer_of c.args.machine c.args.next.now ≡ Ok c.in_ok-reached.reached = search rules in
    let s = found_says c.args.machine c.args.next.now _ o in
    ap Ok c.found.ensures.value ∙ sym (needed_found _ _ _ _ e s.fits)

pub returns-clause-list_after : goal.returns-clause-list_after
returns-clause-list_after c =
    let a : eqb (length c.args.outputs.now) OUTPUT_ENTRIES ≡ true = search rules in
    let b : eqb (length c.args.list.now) LIST_ENTRIES ≡ true = search rules in
    let d : eqb (length c.args.next.now) NEXT_ENTRIES ≡ true = search rules in
    let e = lengths_all c.args.next.now c.args.outputs.now c.args.list.now a b d in
    let o : answer_of c.args.machine c.args.next.now ≡ Ok c.in_ok-reached.reached = search rules in
    let s = found_says c.args.machine c.args.next.now _ o in
    c.found.ensures.list_after ∙ sym (list_found _ _ _ _ e s.fits)

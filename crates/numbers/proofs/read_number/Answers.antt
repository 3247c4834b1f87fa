use Rattle.std.proofs.Common.{◌+◌, ◌*◌, eqb, sym, ap, ◌∙◌, arith, rules}
use Rattle.std.proofs.lemmas.Bool.Decides.{nat_tests}
use Rattle.numbers.specs.Numbers.{read, from_place}
use Rattle.numbers.proofs.Steps.{big_at, zero_at, end_at, on_next, none_at, past_end}
use Rattle.numbers.proofs.read_number.Goals as goal

pub returns-then-b-ge-FIFTH_END : goal.returns-then-b-ge-FIFTH_END
returns-then-b-ge-FIFTH_END c = record {
  is = sym (c.loop-i.invariant.2
      ∙ ap (from_place c.args.at) (big_at c.loop-i.weight c.loop-i.value c.loop-i.i _ _ c.in-Some.rest.now c.loop-i.i (omega arith) (omega arith) (omega arith)));
  within = tt;
}

pub returns-then-i-gt0 : goal.returns-then-i-gt0
returns-then-i-gt0 c = record {
  is = sym (c.loop-i.invariant.2
      ∙ ap (from_place c.args.at) (zero_at c.loop-i.weight c.loop-i.value c.loop-i.i _ _ c.in-Some.rest.now c.loop-i.i (omega arith) (grind (arith, nat_tests)) (omega arith)));
  within = tt;
}

pub returns-in_default-clause-is : goal.returns-in_default-clause-is
returns-in_default-clause-is c = let h = c.in_default.ensures.lookup in sym (past_end c.args.bytes.now c.args.at (omega arith))

pub returns-then-b-lt128-clause-is : goal.returns-then-b-lt128-clause-is
returns-then-b-lt128-clause-is c =
    sym (c.loop-i.invariant.2 ∙ ap (from_place c.args.at) (
    end_at c.loop-i.weight c.loop-i.value c.loop-i.i _ _ c.in-Some.rest.now c.loop-i.i (omega arith) (omega arith) (λ z. omega arith) (λ z. grind (arith, nat_tests))
    ∙ ap (λ b. read (c.loop-i.value + c.loop-i.weight * b) (c.loop-i.i + 1)) (sym c.from.ensures))
    ∙ ap (read (c.loop-i.value + c.loop-i.weight * c.from.result)) (omega arith))

pub loop-i-preserved : goal.loop-i-preserved
loop-i-preserved c = (
  search rules,
  search rules,
  c.loop-i.invariant.2 ∙ ap (from_place c.args.at) (
      on_next c.loop-i.weight c.loop-i.value c.loop-i.i _ _ _ _ (eqb (c.loop-i.i + 1) 0) c.in-Some.rest.now (omega arith) (omega arith) (omega arith)
      c.from-in-loop-i.ensures (omega arith) (grind (arith, nat_tests))),
)

pub returns-clause-is : goal.returns-clause-is
returns-clause-is c =
    sym (c.loop-i.invariant.2 ∙ ap (from_place c.args.at) (none_at c.loop-i.weight c.loop-i.value c.loop-i.i _ _ c.in-Some.rest.now c.loop-i.i (omega arith)))

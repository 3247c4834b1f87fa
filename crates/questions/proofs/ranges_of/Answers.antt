use Rattle.std.proofs.Common.{◌≡◌, suc, ◌+◌, ◌-◌, replicate, refl, subst, sym, ◌∙◌, rules, arith}
use Rattle.std.proofs.lemmas.List.{get_or-replicate, length-set}
use Rattle.questions.specs.Ranges.{no_range, RangesAre}
use Rattle.questions.proofs.Ranged.{ranges_start, ranges_step, ranges_small}
use Rattle.questions.proofs.ranges_of.Goals as goal

pub loop-part-init : goal.loop-part-init
loop-part-init c =
    let is : c.default-ranges.result ≡ no_range = search rules in
    let few = c.requires.few in
    record {
      room = refl;
      each = subst (λ g. RangesAre c.args.parts c.args.coefficients.now c.args.parts (replicate 49 g)) (sym is) (ranges_start c.args.parts c.args.coefficients.now (replicate 49 no_range) (get_or-replicate 49 c.args.parts no_range no_range (omega arith)));
    }

pub wider-requires : goal.wider-requires
wider-requires c = (ranges_small c.args.parts c.args.coefficients.now c.requires c.loop-part.ranges c.loop-part.part (c.loop-part.part - 1 + 1) c.loop-part.invariant.each (omega arith) (omega arith), search (rules, c.requires.small (c.loop-part.part - 1)))

pub loop-part-preserved : goal.loop-part-preserved
loop-part-preserved c =
    let few = c.requires.few in
    let next : c.loop-part.part ≡ suc (c.loop-part.part - 1) = omega arith in
    let room = c.loop-part.invariant.room in
    record {
      room = length-set c.loop-part.ranges (c.loop-part.part - 1) c.wider.result ∙ room;
      each =
          ranges_step c.args.parts c.args.coefficients.now c.loop-part.ranges (c.loop-part.part - 1) c.wider.result (omega arith) (omega arith)
          (subst (λ i. RangesAre c.args.parts c.args.coefficients.now i c.loop-part.ranges) next c.loop-part.invariant.each)
          (search rules);
    }

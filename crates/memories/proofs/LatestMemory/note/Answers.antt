use Rattle.std.proofs.Common.{◌-◌, length, set, sym, subst, rules}
use Rattle.arrayvec.proofs.ArrayVecLemmas.{items-with_items}
use Rattle.memories.specs.Held.{pair}
use Rattle.memories.proofs.Pairs.{Apart, apart_set, apart_push, contains_push}
use Rattle.memories.proofs.LatestMemory.note.Goals as goal

pub invariant_of-self : goal.invariant_of-self
invariant_of-self c =
    let xs = c.deref_mut.result.now in
    let once : Apart xs = subst Apart (sym c.deref_mut.ensures.value) c.args.self.now.once in
    record { once = subst Apart (sym (items-with_items c.args.self.now.pairs (set xs c.in-Some.i (pair c.args.q c.args.e)) (search rules))) (apart_set xs c.in-Some.i c.args.q c.args.e (search rules) (search rules) once) }

pub invariant_of-self-in-None : goal.invariant_of-self-in-None
invariant_of-self-in-None c =
    let xs = c.args.self.now.pairs.items in
    record { once = apart_push xs _ (length xs - 63) c.args.q c.args.e (search rules) (search rules) c.args.self.now.once }

pub returns-after-is_full-clause-old : goal.returns-after-is_full-clause-old
returns-after-is_full-clause-old c =
    let xs = c.args.self.now.pairs.items in
    contains_push xs _ (length xs - 63) c.args.q c.args.e (search rules)

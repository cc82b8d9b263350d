-- `same_bits` compares the last byte by its top five bits and the others whole: all its bits, since the data is as long as its family's.
use native.Mathlib.Omega.{arith}
use borrow.Author.Tests.{ne_eqb, eq-eqb}
use mathlib.Core.Path.{◌≡◌, sym, ◌∙◌}
use mathlib.Core.Bool.{◌&&◌}
use Prim.Native.Nat.{◌-◌, ◌/◌}
use lib.Dec.{eqb}
use lib.ListN.{length, take, get_or}
use Rattle.paper.specs.Record.{family_if, last_weight, same_list, same_bits}
use Rattle.credit.proofs.Same.{bits_by_bytes}
use Rattle.credit.proofs.same_bits.Goals as goal

pub returns-then-a-last : goal.returns-then-a-last
returns-then-a-last c = sym (rw (ne_eqb _ _ c.if-a-last.true) at (let it : let a = c.args.a.now in
    let b = c.args.b.now in
    let k = length a - 1 in
    same_bits (family_if c.args.timing) a b ≡ (eqb (get_or a k 0 / last_weight) (get_or b k 0 / last_weight) && same_list (take k a) (take k b)) = bits_by_bytes (family_if c.args.timing) c.args.a.now c.args.b.now (length c.args.a.now - 1) (omega arith) c.requires.0 c.requires.1 in it))

pub returns : goal.returns
returns c =
    c.same_first.ensures
    ∙ sym (rw (eq-eqb _ _ c.if-a-last.false) at (let it : let a = c.args.a.now in
    let b = c.args.b.now in
    let k = length a - 1 in
    same_bits (family_if c.args.timing) a b ≡ (eqb (get_or a k 0 / last_weight) (get_or b k 0 / last_weight) && same_list (take k a) (take k b)) = bits_by_bytes (family_if c.args.timing) c.args.a.now c.args.b.now (length c.args.a.now - 1) (omega arith) c.requires.0 c.requires.1 in it))

-- `given_agrees` tests the length and then the bits, against the data of the record that starts at `at`.
use mathlib.Core.Path.{ap, ◌∙◌}
use borrow.Author.Tests.{eq-eqb}
use lib.ListN.{length}
use Rattle.paper.specs.Record.{family_if, data_bytes, same_bits}
use Rattle.paper.specs.Tag.{given_agrees}
use Rattle.tags.proofs.Accepts.{data_here}
use Rattle.tags.proofs.given_agrees.Goals as goal

pub returns : goal.returns
unfolding given_agrees
returns c =
    let a = c.args in
    let f = family_if a.timing in
    rw (eq-eqb (length a.given.now) (data_bytes f) (c.if-given-bytes_of.false ∙ c.bytes_of.ensures))
    (c.same_bits.ensures ∙ ap (same_bits f a.given.now) (c.data_of.ensures ∙ data_here f a.at a.room.now))

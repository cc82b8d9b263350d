-- `credit_rows` goes through the rows in order, as `credit_row` through the slots; each counts at most as many as it may have slots.
use mathlib.Core.Path.{◌≡◌}
use Prim.Native.Nat.{◌≤◌, ◌*◌}
use Rattle.paper.specs.Parts.{on_parts, sum_parts}
use Rattle.paper.specs.Record.{family_if}
use Rattle.paper.specs.Room.{most_slots, header_size, row_size, each_record, how_many}
use Rattle.paper.specs.Tag.{matches, credited}
use Rattle.credit.proofs.credit_rows.Given as goal

abbrev pub invariant-loop-r : goal.invariant-loop-r
invariant-loop-r l = record {
  taken : l.room ≡ on_parts (each_record (family_if l.timing) l.n (credited (family_if l.timing) l.sat l.given l.added)) (row_size l.n) l.r header_size l.initial.room;
  counted : l.total ≡ sum_parts (how_many (family_if l.timing) l.n (matches (family_if l.timing) l.sat l.given)) (row_size l.n) l.r header_size l.initial.room;
  most : l.total ≤ l.r * most_slots;
}

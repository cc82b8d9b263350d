-- The promises of `ring` are tight: any two outcomes that a contract permits are equal, the room or the row at exit.
use mathlib.Core.Path.{◌≡◌, sym, ◌∙◌}
use borrow.Fn.Kinds.{res_t, ended_of, Dens}
use denote.Triple.Clauses.{AtExit}
use contract.Lifetimes.{Lfts}
use Rattle.ring.proofs.copy_records.Reads as copy_records_reads
use Rattle.ring.proofs.copy_records.Kinds as copy_records_kinds
use Rattle.ring.proofs.age_row.Reads as age_row_reads
use Rattle.ring.proofs.age_row.Kinds as age_row_kinds
use Rattle.ring.proofs.settle.Reads as settle_reads
use Rattle.ring.proofs.settle.Kinds as settle_kinds

pub copy_records_determined :
    (κs : Lfts 1)
    (a : Dens κs copy_records_kinds.ps)
    (r r' : (res_t copy_records_kinds.r κs).Denot)
    (e e' : AtExit (ended_of 1 copy_records_kinds.ps copy_records_kinds.r) κs)
    → copy_records_reads.Post κs a r e → copy_records_reads.Post κs a r' e' → e.0.now ≡ e'.0.now
copy_records_determined κs a r r' e e' p q = p ∙ sym q

pub age_row_determined :
    (κs : Lfts 1)
    (a : Dens κs age_row_kinds.ps)
    (r r' : (res_t age_row_kinds.r κs).Denot)
    (e e' : AtExit (ended_of 1 age_row_kinds.ps age_row_kinds.r) κs)
    → age_row_reads.Post κs a r e → age_row_reads.Post κs a r' e' → e.0.now ≡ e'.0.now
age_row_determined κs a r r' e e' p q = p ∙ sym q

pub settle_determined :
    (κs : Lfts 1)
    (a : Dens κs settle_kinds.ps)
    (r r' : (res_t settle_kinds.r κs).Denot)
    (e e' : AtExit (ended_of 1 settle_kinds.ps settle_kinds.r) κs)
    → settle_reads.Post κs a r e → settle_reads.Post κs a r' e' → e.0.now ≡ e'.0.now
settle_determined κs a r r' e e' p q = p ∙ sym q

-- The promises of `records` are tight: any two outcomes that a contract permits are equal, the answer, and the record that
-- `put_ages` leaves.
use mathlib.Core.Path.{◌≡◌, sym, ◌∙◌}
use borrow.Fn.Kinds.{res_t, ended_of, Dens}
use denote.Triple.Clauses.{AtExit}
use contract.Lifetimes.{Lfts}
use mir.Syntax.{w64}
use mir.Val.{Fits}
use Prim.Native.Nat.{ℕ}
use Rattle.records.proofs.one_older.Reads as one_older_reads
use Rattle.records.proofs.one_older.Kinds as one_older_kinds
use Rattle.records.proofs.ages.Reads as ages_reads
use Rattle.records.proofs.ages.Kinds as ages_kinds
use Rattle.records.proofs.put_ages.Reads as put_ages_reads
use Rattle.records.proofs.put_ages.Kinds as put_ages_kinds
use Rattle.records.proofs.older.Reads as older_reads
use Rattle.records.proofs.older.Kinds as older_kinds
use Rattle.records.proofs.greatest.Reads as greatest_reads
use Rattle.records.proofs.greatest.Kinds as greatest_kinds
use Rattle.records.proofs.least.Reads as least_reads
use Rattle.records.proofs.least.Kinds as least_kinds
use Rattle.records.proofs.size_of.Reads as size_of_reads
use Rattle.records.proofs.size_of.Kinds as size_of_kinds
use Rattle.records.proofs.bytes_of.Reads as bytes_of_reads
use Rattle.records.proofs.bytes_of.Kinds as bytes_of_kinds
use Rattle.records.proofs.data_at.Reads as data_at_reads
use Rattle.records.proofs.data_at.Kinds as data_at_kinds

pub ages_determined :
    (N : ℕ)
    (F : Fits w64 N)
    (κs : Lfts 2)
    (a : Dens κs (ages_kinds.ps N F))
    (r r' : (res_t (ages_kinds.r N F) κs).Denot)
    (e e' : AtExit (ended_of 2 (ages_kinds.ps N F) (ages_kinds.r N F)) κs)
    → ages_reads.Post N F κs a r e → ages_reads.Post N F κs a r' e' → r ≡ r'
ages_determined N F κs a r r' e e' p q = p ∙ sym q

pub put_ages_determined :
    (N : ℕ)
    (F : Fits w64 N)
    (κs : Lfts 2)
    (a : Dens κs (put_ages_kinds.ps N F))
    (r r' : (res_t (put_ages_kinds.r N F) κs).Denot)
    (e e' : AtExit (ended_of 2 (put_ages_kinds.ps N F) (put_ages_kinds.r N F)) κs)
    → put_ages_reads.Post N F κs a r e → put_ages_reads.Post N F κs a r' e' → e.0.now ≡ e'.0.now
put_ages_determined N F κs a r r' e e' p q = p ∙ sym q

pub older_determined :
    (N : ℕ)
    (F : Fits w64 N)
    (κs : Lfts 1)
    (a : Dens κs (older_kinds.ps N F))
    (r r' : (res_t (older_kinds.r N F) κs).Denot)
    (e e' : AtExit (ended_of 1 (older_kinds.ps N F) (older_kinds.r N F)) κs)
    → older_reads.Post N F κs a r e → older_reads.Post N F κs a r' e' → r ≡ r'
older_determined N F κs a r r' e e' p q = p ∙ sym q

pub greatest_determined :
    (N : ℕ)
    (F : Fits w64 N)
    (κs : Lfts 1)
    (a : Dens κs (greatest_kinds.ps N F))
    (r r' : (res_t (greatest_kinds.r N F) κs).Denot)
    (e e' : AtExit (ended_of 1 (greatest_kinds.ps N F) (greatest_kinds.r N F)) κs)
    → greatest_reads.Post N F κs a r e → greatest_reads.Post N F κs a r' e' → r ≡ r'
greatest_determined N F κs a r r' e e' p q = p ∙ sym q

pub least_determined :
    (N : ℕ)
    (F : Fits w64 N)
    (κs : Lfts 1)
    (a : Dens κs (least_kinds.ps N F))
    (r r' : (res_t (least_kinds.r N F) κs).Denot)
    (e e' : AtExit (ended_of 1 (least_kinds.ps N F) (least_kinds.r N F)) κs)
    → least_reads.Post N F κs a r e → least_reads.Post N F κs a r' e' → r ≡ r'
least_determined N F κs a r r' e e' p q = p ∙ sym q

pub size_of_determined :
    (κs : Lfts 0)
    (a : Dens κs size_of_kinds.ps)
    (r r' : (res_t size_of_kinds.r κs).Denot)
    (e e' : AtExit (ended_of 0 size_of_kinds.ps size_of_kinds.r) κs)
    → size_of_reads.Post κs a r e → size_of_reads.Post κs a r' e' → r ≡ r'
size_of_determined κs a r r' e e' p q = p ∙ sym q

pub bytes_of_determined :
    (κs : Lfts 0)
    (a : Dens κs bytes_of_kinds.ps)
    (r r' : (res_t bytes_of_kinds.r κs).Denot)
    (e e' : AtExit (ended_of 0 bytes_of_kinds.ps bytes_of_kinds.r) κs)
    → bytes_of_reads.Post κs a r e → bytes_of_reads.Post κs a r' e' → r ≡ r'
bytes_of_determined κs a r r' e e' p q = p ∙ sym q

pub data_at_determined :
    (κs : Lfts 0)
    (a : Dens κs data_at_kinds.ps)
    (r r' : (res_t data_at_kinds.r κs).Denot)
    (e e' : AtExit (ended_of 0 data_at_kinds.ps data_at_kinds.r) κs)
    → data_at_reads.Post κs a r e → data_at_reads.Post κs a r' e' → r ≡ r'
data_at_determined κs a r r' e e' p q = p ∙ sym q

pub one_older_determined :
    (κs : Lfts 0)
    (a : Dens κs one_older_kinds.ps)
    (r r' : (res_t one_older_kinds.r κs).Denot)
    (e e' : AtExit (ended_of 0 one_older_kinds.ps one_older_kinds.r) κs)
    → one_older_reads.Post κs a r e → one_older_reads.Post κs a r' e' → r ≡ r'
one_older_determined κs a r r' e e' p q = p ∙ sym q

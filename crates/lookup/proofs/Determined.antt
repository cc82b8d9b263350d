-- The promises of `lookup` are tight: any two answers that a contract permits are equal.
use mathlib.Core.Bool.{Bool}
use mathlib.Core.Path.{◌≡◌, sym, ◌∙◌}
use Prim.Native.Nat.{ℕ, ◌<◌}
use borrow.Fn.Kinds.{res_t, ended_of, Dens}
use denote.Triple.Clauses.{AtExit}
use contract.Lifetimes.{Lfts}
use denote.RattleType.{RattleType}
use denote.Param.Laws.{Laws}
use mir.Syntax.{Dict}
use Rattle.lookup.specs.contracts.first.F-Fn.{Ghosts, words}
use Rattle.lookup.proofs.first.Reads as first_reads
use Rattle.lookup.proofs.first.Kinds as first_kinds
use Rattle.lookup.proofs.row_marked.Reads as row_marked_reads
use Rattle.lookup.proofs.row_marked.Kinds as row_marked_kinds
use Rattle.lookup.proofs.slot_of.Reads as slot_of_reads
use Rattle.lookup.proofs.slot_of.Kinds as slot_of_kinds
use Rattle.lookup.proofs.data_of.Reads as data_of_reads
use Rattle.lookup.proofs.data_of.Kinds as data_of_kinds
use Rattle.lookup.proofs.candidate_at.Reads as candidate_at_reads
use Rattle.lookup.proofs.candidate_at.Kinds as candidate_at_kinds

pub row_marked_determined :
    (κs : Lfts 1)
    (a : Dens κs row_marked_kinds.ps)
    (r r' : (res_t row_marked_kinds.r κs).Denot)
    (e e' : AtExit (ended_of 1 row_marked_kinds.ps row_marked_kinds.r) κs)
    → row_marked_reads.Post κs a r e → row_marked_reads.Post κs a r' e' → r ≡ r'
row_marked_determined κs a r r' e e' p q = p ∙ sym q

pub slot_of_determined :
    (κs : Lfts 1)
    (a : Dens κs slot_of_kinds.ps)
    (r r' : (res_t slot_of_kinds.r κs).Denot)
    (e e' : AtExit (ended_of 1 slot_of_kinds.ps slot_of_kinds.r) κs)
    → slot_of_reads.Post κs a r e → slot_of_reads.Post κs a r' e' → r ≡ r'
slot_of_determined κs a r r' e e' p q = p ∙ sym q

pub data_of_determined :
    (κs : Lfts 1)
    (a : Dens κs data_of_kinds.ps)
    (r r' : (res_t data_of_kinds.r κs).Denot)
    (e e' : AtExit (ended_of 1 data_of_kinds.ps data_of_kinds.r) κs)
    → data_of_reads.Post κs a r e → data_of_reads.Post κs a r' e' → r.now ≡ r'.now
data_of_determined κs a r r' e e' p q = p ∙ sym q

pub candidate_at_determined :
    (κs : Lfts 1)
    (a : Dens κs candidate_at_kinds.ps)
    (r r' : (res_t candidate_at_kinds.r κs).Denot)
    (e e' : AtExit (ended_of 1 candidate_at_kinds.ps candidate_at_kinds.r) κs)
    → candidate_at_reads.Post κs a r e → candidate_at_reads.Post κs a r' e' → r ≡ r'
candidate_at_determined κs a r r' e e' p q = p ∙ sym q

-- where each number below n has one answer of the closure that is lent
pub first_determined :
    (F : RattleType)
    (L : Laws F)
    (G : Ghosts F)
    (d1 d2 d3 d4 : Dict)
    (κs : Lfts 1)
    (a : Dens κs (first_kinds.ps F L))
    (r r' : (res_t (first_kinds.r F L) κs).Denot)
    (e e' : AtExit (ended_of 1 (first_kinds.ps F L) (first_kinds.r F L)) κs)
    (p : ℕ → Bool)
    → ((i : ℕ) (b : Bool) → i < a.0 → (words F G).post a.1.0 i b → b ≡ p i)
    → first_reads.Post F L G d1 d2 d3 d4 κs a r e → first_reads.Post F L G d1 d2 d3 d4 κs a r' e' → r ≡ r'
first_determined F L G d1 d2 d3 d4 κs a r r' e e' p says x y = x p says ∙ sym (y p says)

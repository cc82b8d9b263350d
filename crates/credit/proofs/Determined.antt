-- Two outcomes that a contract of this crate permits are equal. Assumes nothing.
use borrow.Fn.Kinds.{res_t, ended_of, Dens}
use denote.Triple.Clauses.{AtExit}
use contract.Lifetimes.{Lfts}
use mathlib.Core.Path.{◌≡◌, sym, ◌∙◌}
use Rattle.credit.proofs.same_bits.Reads as same
use Rattle.credit.proofs.same_bits.Kinds as same_kinds
use Rattle.credit.proofs.credit_rows.Reads as rows
use Rattle.credit.proofs.credit_rows.Kinds as rows_kinds

pub same_bits_determined :
    (κs : Lfts 2) (a : Dens κs same_kinds.ps) (r r' : (res_t same_kinds.r κs).Denot)
    (e e' : AtExit (ended_of 2 same_kinds.ps same_kinds.r) κs) → same.Post κs a r e → same.Post κs a r' e' → r ≡ r'
same_bits_determined κs a r r' e e' p q = p ∙ sym q

pub credit_rows_determined :
    (κs : Lfts 2) (a : Dens κs rows_kinds.ps) (r r' : (res_t rows_kinds.r κs).Denot)
    (e e' : AtExit (ended_of 2 rows_kinds.ps rows_kinds.r) κs) → rows.Post κs a r e → rows.Post κs a r' e'
    → (r ≡ r') × (e.0.now ≡ e'.0.now)
credit_rows_determined κs a r r' e e' p q = (p.1 ∙ sym q.1, p.0 ∙ sym q.0)

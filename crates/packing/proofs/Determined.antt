-- The promises of `packing` are tight: any two outcomes that a contract permits are equal, the answer and the slice at exit. Assumes nothing.
use mathlib.Core.Path.{◌≡◌, sym, ◌∙◌}
use borrow.Fn.Kinds.{res_t, ended_of, Dens}
use denote.Triple.Clauses.{AtExit}
use contract.Lifetimes.{Lfts}
use Rattle.packing.proofs.write.Reads as write
use Rattle.packing.proofs.write.Kinds as write_kinds
use Rattle.packing.proofs.head.Reads as head
use Rattle.packing.proofs.head.Kinds as head_kinds
use Rattle.packing.proofs.body.Reads as body
use Rattle.packing.proofs.body.Kinds as body_kinds

pub write_determined :
    (κs : Lfts 2) (a : Dens κs write_kinds.ps) (r r' : (res_t write_kinds.r κs).Denot)
    (e e' : AtExit (ended_of 2 write_kinds.ps write_kinds.r) κs)
    → write.Post κs a r e → write.Post κs a r' e' → e.0.now ≡ e'.0.now
write_determined κs a r r' e e' p q = p ∙ sym q

pub head_determined :
    (κs : Lfts 1) (a : Dens κs head_kinds.ps) (r r' : (res_t head_kinds.r κs).Denot)
    (e e' : AtExit (ended_of 1 head_kinds.ps head_kinds.r) κs)
    → head.Post κs a r e → head.Post κs a r' e' → r ≡ r'
head_determined κs a r r' e e' p q = p ∙ sym q

pub body_determined :
    (κs : Lfts 2) (a : Dens κs body_kinds.ps) (r r' : (res_t body_kinds.r κs).Denot)
    (e e' : AtExit (ended_of 2 body_kinds.ps body_kinds.r) κs)
    → body.Post κs a r e → body.Post κs a r' e' → e.0.now ≡ e'.0.now
body_determined κs a r r' e e' p q = p ∙ sym q

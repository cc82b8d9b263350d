-- The promises of building and reading back are tight: two outcomes that a contract permits are equal, the answer and the lent buffer. Assumes
-- nothing.
use borrow.Fn.Kinds.{res_t, ended_of, Dens}
use denote.Triple.Clauses.{AtExit}
use contract.Lifetimes.{Lfts}
use mathlib.Core.Path.{◌≡◌, sym, ◌∙◌}
use Rattle.message.proofs.OneToOne.{built_one, read_one}
use Rattle.message.proofs.build.Reads as build
use Rattle.message.proofs.build.Kinds as build_kinds
use Rattle.message.proofs.read.Reads as read
use Rattle.message.proofs.read.Kinds as read_kinds

pub build_determined :
    (κs : Lfts 2) (a : Dens κs build_kinds.ps) (r r' : (res_t build_kinds.r κs).Denot)
    (e e' : AtExit (ended_of 2 build_kinds.ps build_kinds.r) κs)
    → build.Post κs a r e → build.Post κs a r' e'
    → (r ≡ r') × (e.0.now ≡ e'.0.now)
build_determined κs a r r' e e' p q = (built_one r r' (p.0 ∙ sym q.0), p.1 ∙ sym q.1)

pub read_determined :
    (κs : Lfts 2) (a : Dens κs read_kinds.ps) (r r' : (res_t read_kinds.r κs).Denot)
    (e e' : AtExit (ended_of 2 read_kinds.ps read_kinds.r) κs)
    → read.Post κs a r e → read.Post κs a r' e'
    → (r ≡ r') × (e.0.now ≡ e'.0.now)
read_determined κs a r r' e e' p q = (read_one r r' (p.0 ∙ sym q.0), p.1 ∙ sym q.1)

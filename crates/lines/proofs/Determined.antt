-- The promises of `lines` are tight: any two outcomes that a contract permits are equal.
use mathlib.Core.Path.{◌≡◌, sym, ◌∙◌}
use borrow.Fn.Kinds.{res_t, ended_of, Dens}
use denote.Triple.Clauses.{AtExit}
use contract.Lifetimes.{Lfts}
use Rattle.text.proofs.Puts.{put_one}
use Rattle.lines.proofs.KindFromU8.from.Reads as kind_of_reads
use Rattle.lines.proofs.KindFromU8.from.Kinds as kind_of_kinds
use Rattle.lines.proofs.Kind.body.Reads as body_Reads
use Rattle.lines.proofs.Kind.body.Kinds as body_kinds
use Rattle.lines.proofs.number_of.Reads as number_reads
use Rattle.lines.proofs.number_of.Kinds as number_kinds
use Rattle.lines.proofs.put_line.Reads as put_line_reads
use Rattle.lines.proofs.put_line.Kinds as put_line_kinds

pub kind_of_determined :
    (κs : Lfts 0)
    (a : Dens κs kind_of_kinds.ps)
    (r r' : (res_t kind_of_kinds.r κs).Denot)
    (e e' : AtExit (ended_of 0 kind_of_kinds.ps kind_of_kinds.r) κs)
    → kind_of_reads.Post κs a r e → kind_of_reads.Post κs a r' e' → r ≡ r'
kind_of_determined κs a r r' e e' p q = p ∙ sym q

pub body_determined :
    (κs : Lfts 0)
    (a : Dens κs body_kinds.ps)
    (r r' : (res_t body_kinds.r κs).Denot)
    (e e' : AtExit (ended_of 0 body_kinds.ps body_kinds.r) κs)
    → body_Reads.Post κs a r e → body_Reads.Post κs a r' e' → r ≡ r'
body_determined κs a r r' e e' p q = p ∙ sym q

pub number_determined :
    (κs : Lfts 0)
    (a : Dens κs number_kinds.ps)
    (r r' : (res_t number_kinds.r κs).Denot)
    (e e' : AtExit (ended_of 0 number_kinds.ps number_kinds.r) κs)
    → number_reads.Post κs a r e → number_reads.Post κs a r' e' → r ≡ r'
number_determined κs a r r' e e' p q = p ∙ sym q

pub put_line_determined :
    (κs : Lfts 2)
    (a : Dens κs put_line_kinds.ps)
    (r r' : (res_t put_line_kinds.r κs).Denot)
    (e e' : AtExit (ended_of 2 put_line_kinds.ps put_line_kinds.r) κs)
    → put_line_reads.Post κs a r e → put_line_reads.Post κs a r' e' → (e.0.now ≡ e'.0.now) × (r ≡ r')
put_line_determined κs a r r' e e' p q = put_one p.0 q.0

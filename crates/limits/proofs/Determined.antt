-- The promises of `limits` are tight: any two answers that a contract permits are equal. Assumes nothing.
use borrow.Fn.Kinds.{res_t, ended_of, Dens}
use denote.Triple.Clauses.{AtExit}
use contract.Lifetimes.{Lfts}
use mathlib.Core.Path.{◌≡◌, refl, sym, ◌∙◌}
use mathlib.Core.Bool.{Bool, true, false, not}
use Rattle.limits.proofs.sizes_allowed.Reads as sizes
use Rattle.limits.proofs.sizes_allowed.Kinds as sizes_kinds
use Rattle.limits.proofs.rule_known.Reads as rule
use Rattle.limits.proofs.rule_known.Kinds as rule_kinds
use Rattle.limits.proofs.fresh_allowed.Reads as fresh
use Rattle.limits.proofs.fresh_allowed.Kinds as fresh_kinds
use Rattle.limits.proofs.band_unknown.Reads as band
use Rattle.limits.proofs.band_unknown.Kinds as band_kinds
use Rattle.limits.proofs.kind_known.Reads as kind
use Rattle.limits.proofs.kind_known.Kinds as kind_kinds
use Rattle.limits.proofs.cop_allowed.Reads as cop
use Rattle.limits.proofs.cop_allowed.Kinds as cop_kinds
use Rattle.limits.proofs.length_allowed.Reads as len
use Rattle.limits.proofs.length_allowed.Kinds as len_kinds
use Rattle.limits.proofs.status_known.Reads as status
use Rattle.limits.proofs.status_known.Kinds as status_kinds
use Rattle.limits.proofs.status_adds.Reads as adds
use Rattle.limits.proofs.status_adds.Kinds as adds_kinds
use Rattle.limits.proofs.tag_allowed.Reads as allowed
use Rattle.limits.proofs.tag_allowed.Kinds as allowed_kinds
use Rattle.limits.proofs.tag_known.Reads as known
use Rattle.limits.proofs.tag_known.Kinds as known_kinds

pub sizes_allowed_determined :
    (κs : Lfts 0) (a : Dens κs sizes_kinds.ps) (r r' : (res_t sizes_kinds.r κs).Denot)
    (e e' : AtExit (ended_of 0 sizes_kinds.ps sizes_kinds.r) κs) → sizes.Post κs a r e → sizes.Post κs a r' e' → r ≡ r'
sizes_allowed_determined κs a r r' e e' p q = p ∙ sym q

pub rule_known_determined :
    (κs : Lfts 0) (a : Dens κs rule_kinds.ps) (r r' : (res_t rule_kinds.r κs).Denot)
    (e e' : AtExit (ended_of 0 rule_kinds.ps rule_kinds.r) κs) → rule.Post κs a r e → rule.Post κs a r' e' → r ≡ r'
rule_known_determined κs a r r' e e' p q = p ∙ sym q

pub fresh_allowed_determined :
    (κs : Lfts 0) (a : Dens κs fresh_kinds.ps) (r r' : (res_t fresh_kinds.r κs).Denot)
    (e e' : AtExit (ended_of 0 fresh_kinds.ps fresh_kinds.r) κs) → fresh.Post κs a r e → fresh.Post κs a r' e' → r ≡ r'
fresh_allowed_determined κs a r r' e e' p q = p ∙ sym q

-- a test that says the opposite of what the paper's says
opposite : (b b' : Bool) → not b ≡ not b' → b ≡ b'
opposite true true e = refl
opposite true false e = sym e
opposite false true e = sym e
opposite false false e = refl

pub band_unknown_determined :
    (κs : Lfts 0) (a : Dens κs band_kinds.ps) (r r' : (res_t band_kinds.r κs).Denot)
    (e e' : AtExit (ended_of 0 band_kinds.ps band_kinds.r) κs) → band.Post κs a r e → band.Post κs a r' e' → r ≡ r'
band_unknown_determined κs a r r' e e' p q = opposite r r' (p ∙ sym q)

pub kind_known_determined :
    (κs : Lfts 0) (a : Dens κs kind_kinds.ps) (r r' : (res_t kind_kinds.r κs).Denot)
    (e e' : AtExit (ended_of 0 kind_kinds.ps kind_kinds.r) κs) → kind.Post κs a r e → kind.Post κs a r' e' → r ≡ r'
kind_known_determined κs a r r' e e' p q = p ∙ sym q

pub cop_allowed_determined :
    (κs : Lfts 0) (a : Dens κs cop_kinds.ps) (r r' : (res_t cop_kinds.r κs).Denot)
    (e e' : AtExit (ended_of 0 cop_kinds.ps cop_kinds.r) κs) → cop.Post κs a r e → cop.Post κs a r' e' → r ≡ r'
cop_allowed_determined κs a r r' e e' p q = p ∙ sym q

pub length_allowed_determined :
    (κs : Lfts 0) (a : Dens κs len_kinds.ps) (r r' : (res_t len_kinds.r κs).Denot)
    (e e' : AtExit (ended_of 0 len_kinds.ps len_kinds.r) κs) → len.Post κs a r e → len.Post κs a r' e' → r ≡ r'
length_allowed_determined κs a r r' e e' p q = p ∙ sym q

pub status_known_determined :
    (κs : Lfts 0) (a : Dens κs status_kinds.ps) (r r' : (res_t status_kinds.r κs).Denot)
    (e e' : AtExit (ended_of 0 status_kinds.ps status_kinds.r) κs) → status.Post κs a r e → status.Post κs a r' e' → r ≡ r'
status_known_determined κs a r r' e e' p q = p ∙ sym q

pub status_adds_determined :
    (κs : Lfts 0) (a : Dens κs adds_kinds.ps) (r r' : (res_t adds_kinds.r κs).Denot)
    (e e' : AtExit (ended_of 0 adds_kinds.ps adds_kinds.r) κs) → adds.Post κs a r e → adds.Post κs a r' e' → r ≡ r'
status_adds_determined κs a r r' e e' p q = p ∙ sym q

pub tag_allowed_determined :
    (κs : Lfts 0) (a : Dens κs allowed_kinds.ps) (r r' : (res_t allowed_kinds.r κs).Denot)
    (e e' : AtExit (ended_of 0 allowed_kinds.ps allowed_kinds.r) κs) → allowed.Post κs a r e → allowed.Post κs a r' e' → r ≡ r'
tag_allowed_determined κs a r r' e e' p q = p ∙ sym q

pub tag_known_determined :
    (κs : Lfts 0) (a : Dens κs known_kinds.ps) (r r' : (res_t known_kinds.r κs).Denot)
    (e e' : AtExit (ended_of 0 known_kinds.ps known_kinds.r) κs) → known.Post κs a r e → known.Post κs a r' e' → r ≡ r'
tag_known_determined κs a r r' e e' p q = p ∙ sym q

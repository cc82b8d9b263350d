-- Two outcomes that a contract of a reading permits are equal. Assumes nothing.
use borrow.Fn.Kinds.{res_t, ended_of, Dens}
use denote.Triple.Clauses.{AtExit}
use contract.Lifetimes.{Lfts}
use mathlib.Core.Path.{◌≡◌, sym, ◌∙◌}
use Rattle.fields.proofs.whole.Reads as whole
use Rattle.fields.proofs.whole.Kinds as whole_Kinds
use Rattle.fields.proofs.signed.Reads as signed
use Rattle.fields.proofs.signed.Kinds as signed_kinds
use Rattle.fields.proofs.read_word1.Reads as read_word1
use Rattle.fields.proofs.read_word1.Kinds as read_word1_kinds
use Rattle.fields.proofs.read_word2.Reads as read_word2
use Rattle.fields.proofs.read_word2.Kinds as read_word2_kinds
use Rattle.fields.proofs.read_word3.Reads as read_word3
use Rattle.fields.proofs.read_word3.Kinds as read_word3_kinds
use Rattle.fields.proofs.read_word4.Reads as read_word4
use Rattle.fields.proofs.read_word4.Kinds as read_word4_kinds
use Rattle.fields.proofs.read_word5.Reads as read_word5
use Rattle.fields.proofs.read_word5.Kinds as read_word5_kinds
use Rattle.fields.proofs.read_word6.Reads as read_word6
use Rattle.fields.proofs.read_word6.Kinds as read_word6_kinds
use Rattle.fields.proofs.read_word10.Reads as read_word10
use Rattle.fields.proofs.read_word10.Kinds as read_word10_kinds

pub whole_determined :
    (κs : Lfts 1) (a : Dens κs whole_Kinds.ps) (r r' : (res_t whole_Kinds.r κs).Denot)
    (e e' : AtExit (ended_of 1 whole_Kinds.ps whole_Kinds.r) κs)
    → whole.Post κs a r e → whole.Post κs a r' e'
    → r ≡ r'
whole_determined κs a r r' e e' p q = p ∙ sym q

pub signed_determined :
    (κs : Lfts 1) (a : Dens κs signed_kinds.ps) (r r' : (res_t signed_kinds.r κs).Denot)
    (e e' : AtExit (ended_of 1 signed_kinds.ps signed_kinds.r) κs)
    → signed.Post κs a r e → signed.Post κs a r' e'
    → r ≡ r'
signed_determined κs a r r' e e' p q = p ∙ sym q

pub read_word1_determined :
    (κs : Lfts 1) (a : Dens κs read_word1_kinds.ps) (r r' : (res_t read_word1_kinds.r κs).Denot)
    (e e' : AtExit (ended_of 1 read_word1_kinds.ps read_word1_kinds.r) κs)
    → read_word1.Post κs a r e → read_word1.Post κs a r' e'
    → r ≡ r'
read_word1_determined κs a r r' e e' p q = p ∙ sym q

pub read_word2_determined :
    (κs : Lfts 1) (a : Dens κs read_word2_kinds.ps) (r r' : (res_t read_word2_kinds.r κs).Denot)
    (e e' : AtExit (ended_of 1 read_word2_kinds.ps read_word2_kinds.r) κs)
    → read_word2.Post κs a r e → read_word2.Post κs a r' e'
    → r ≡ r'
read_word2_determined κs a r r' e e' p q = p ∙ sym q

pub read_word3_determined :
    (κs : Lfts 1) (a : Dens κs read_word3_kinds.ps) (r r' : (res_t read_word3_kinds.r κs).Denot)
    (e e' : AtExit (ended_of 1 read_word3_kinds.ps read_word3_kinds.r) κs)
    → read_word3.Post κs a r e → read_word3.Post κs a r' e'
    → r ≡ r'
read_word3_determined κs a r r' e e' p q = p ∙ sym q

pub read_word4_determined :
    (κs : Lfts 1) (a : Dens κs read_word4_kinds.ps) (r r' : (res_t read_word4_kinds.r κs).Denot)
    (e e' : AtExit (ended_of 1 read_word4_kinds.ps read_word4_kinds.r) κs)
    → read_word4.Post κs a r e → read_word4.Post κs a r' e'
    → r ≡ r'
read_word4_determined κs a r r' e e' p q = p ∙ sym q

pub read_word5_determined :
    (κs : Lfts 1) (a : Dens κs read_word5_kinds.ps) (r r' : (res_t read_word5_kinds.r κs).Denot)
    (e e' : AtExit (ended_of 1 read_word5_kinds.ps read_word5_kinds.r) κs)
    → read_word5.Post κs a r e → read_word5.Post κs a r' e'
    → r ≡ r'
read_word5_determined κs a r r' e e' p q = p ∙ sym q

pub read_word6_determined :
    (κs : Lfts 1) (a : Dens κs read_word6_kinds.ps) (r r' : (res_t read_word6_kinds.r κs).Denot)
    (e e' : AtExit (ended_of 1 read_word6_kinds.ps read_word6_kinds.r) κs)
    → read_word6.Post κs a r e → read_word6.Post κs a r' e'
    → r ≡ r'
read_word6_determined κs a r r' e e' p q = p ∙ sym q

pub read_word10_determined :
    (κs : Lfts 1) (a : Dens κs read_word10_kinds.ps) (r r' : (res_t read_word10_kinds.r κs).Denot)
    (e e' : AtExit (ended_of 1 read_word10_kinds.ps read_word10_kinds.r) κs)
    → read_word10.Post κs a r e → read_word10.Post κs a r' e'
    → r ≡ r'
read_word10_determined κs a r r' e e' p q = p ∙ sym q

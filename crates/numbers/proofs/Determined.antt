-- The promises of `numbers` are tight: any two outcomes that a contract permits are equal, the answer of a read and the slice
-- that a write leaves.
use mathlib.Core.Path.{◌≡◌, sym, ◌∙◌}
use borrow.Fn.Kinds.{res_t, ended_of, Dens}
use denote.Triple.Clauses.{AtExit}
use contract.Lifetimes.{Lfts}
use Rattle.numbers.proofs.as_u16.Reads as as_u16_reads
use Rattle.numbers.proofs.as_u16.Kinds as as_u16_kinds
use Rattle.numbers.proofs.as_u32.Reads as as_u32_reads
use Rattle.numbers.proofs.as_u32.Kinds as as_u32_kinds
use Rattle.numbers.proofs.as_usize.Reads as as_usize_reads
use Rattle.numbers.proofs.as_usize.Kinds as as_usize_kinds
use Rattle.numbers.proofs.byte_or_zero.Reads as byte_or_zero_reads
use Rattle.numbers.proofs.byte_or_zero.Kinds as byte_or_zero_kinds
use Rattle.numbers.proofs.read16.Reads as read16_reads
use Rattle.numbers.proofs.read16.Kinds as read16_kinds
use Rattle.numbers.proofs.read32.Reads as read32_reads
use Rattle.numbers.proofs.read32.Kinds as read32_kinds
use Rattle.numbers.proofs.write16.Reads as write16_reads
use Rattle.numbers.proofs.write16.Kinds as write16_kinds
use Rattle.numbers.proofs.write32.Reads as write32_reads
use Rattle.numbers.proofs.write32.Kinds as write32_kinds

pub as_u16_determined :
    (κs : Lfts 0)
    (a : Dens κs as_u16_kinds.ps)
    (r r' : (res_t as_u16_kinds.r κs).Denot)
    (e e' : AtExit (ended_of 0 as_u16_kinds.ps as_u16_kinds.r) κs)
    → as_u16_reads.Post κs a r e → as_u16_reads.Post κs a r' e' → r ≡ r'
as_u16_determined κs a r r' e e' p q = p.0 ∙ sym q.0

pub as_u32_determined :
    (κs : Lfts 0)
    (a : Dens κs as_u32_kinds.ps)
    (r r' : (res_t as_u32_kinds.r κs).Denot)
    (e e' : AtExit (ended_of 0 as_u32_kinds.ps as_u32_kinds.r) κs)
    → as_u32_reads.Post κs a r e → as_u32_reads.Post κs a r' e' → r ≡ r'
as_u32_determined κs a r r' e e' p q = p.0 ∙ sym q.0

pub as_usize_determined :
    (κs : Lfts 0)
    (a : Dens κs as_usize_kinds.ps)
    (r r' : (res_t as_usize_kinds.r κs).Denot)
    (e e' : AtExit (ended_of 0 as_usize_kinds.ps as_usize_kinds.r) κs)
    → as_usize_reads.Post κs a r e → as_usize_reads.Post κs a r' e' → r ≡ r'
as_usize_determined κs a r r' e e' p q = p.0 ∙ sym q.0

pub byte_or_zero_determined :
    (κs : Lfts 1)
    (a : Dens κs byte_or_zero_kinds.ps)
    (r r' : (res_t byte_or_zero_kinds.r κs).Denot)
    (e e' : AtExit (ended_of 1 byte_or_zero_kinds.ps byte_or_zero_kinds.r) κs)
    → byte_or_zero_reads.Post κs a r e → byte_or_zero_reads.Post κs a r' e' → r ≡ r'
byte_or_zero_determined κs a r r' e e' p q = p ∙ sym q

pub read16_determined :
    (κs : Lfts 1)
    (a : Dens κs read16_kinds.ps)
    (r r' : (res_t read16_kinds.r κs).Denot)
    (e e' : AtExit (ended_of 1 read16_kinds.ps read16_kinds.r) κs)
    → read16_reads.Post κs a r e → read16_reads.Post κs a r' e' → r ≡ r'
read16_determined κs a r r' e e' p q = p ∙ sym q

pub read32_determined :
    (κs : Lfts 1)
    (a : Dens κs read32_kinds.ps)
    (r r' : (res_t read32_kinds.r κs).Denot)
    (e e' : AtExit (ended_of 1 read32_kinds.ps read32_kinds.r) κs)
    → read32_reads.Post κs a r e → read32_reads.Post κs a r' e' → r ≡ r'
read32_determined κs a r r' e e' p q = p ∙ sym q

pub write16_determined :
    (κs : Lfts 1)
    (a : Dens κs write16_kinds.ps)
    (r r' : (res_t write16_kinds.r κs).Denot)
    (e e' : AtExit (ended_of 1 write16_kinds.ps write16_kinds.r) κs)
    → write16_reads.Post κs a r e → write16_reads.Post κs a r' e' → e.0.now ≡ e'.0.now
write16_determined κs a r r' e e' p q = p ∙ sym q

pub write32_determined :
    (κs : Lfts 1)
    (a : Dens κs write32_kinds.ps)
    (r r' : (res_t write32_kinds.r κs).Denot)
    (e e' : AtExit (ended_of 1 write32_kinds.ps write32_kinds.r) κs)
    → write32_reads.Post κs a r e → write32_reads.Post κs a r' e' → e.0.now ≡ e'.0.now
write32_determined κs a r r' e e' p q = p ∙ sym q

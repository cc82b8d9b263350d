-- Two outcomes that a contract of this crate permits are equal: of the struct for an answer, and of an export the answer and the lent buffer.
-- Assumes nothing.
use borrow.Fn.Kinds.{res_t, ended_of, Dens}
use denote.Triple.Clauses.{AtExit}
use contract.Lifetimes.{Lfts}
use mathlib.Core.Path.{◌≡◌, sym, ◌∙◌}
use Rattle.ffi_message.proofs.MessageBuiltFromResultUsizeRefusal.from.Reads as message_built
use Rattle.ffi_message.proofs.MessageBuiltFromResultUsizeRefusal.from.Kinds as message_built_kinds
use Rattle.ffi_message.proofs.MessageReadFromResultHeadingRefusal.from.Reads as message_read
use Rattle.ffi_message.proofs.MessageReadFromResultHeadingRefusal.from.Kinds as message_read_kinds
use Rattle.ffi_message.proofs.dawnstook_build_message.Reads as build_message
use Rattle.ffi_message.proofs.dawnstook_build_message.Kinds as build_message_kinds
use Rattle.ffi_message.proofs.dawnstook_read_message.Reads as read_message
use Rattle.ffi_message.proofs.dawnstook_read_message.Kinds as read_message_kinds

pub message_built_determined :
    (κs : Lfts 0) (a : Dens κs message_built_kinds.ps) (r r' : (res_t message_built_kinds.r κs).Denot)
    (e e' : AtExit (ended_of 0 message_built_kinds.ps message_built_kinds.r) κs)
    → message_built.Post κs a r e → message_built.Post κs a r' e' → r ≡ r'
message_built_determined κs a r r' e e' p q = p ∙ sym q

pub message_read_determined :
    (κs : Lfts 0) (a : Dens κs message_read_kinds.ps) (r r' : (res_t message_read_kinds.r κs).Denot)
    (e e' : AtExit (ended_of 0 message_read_kinds.ps message_read_kinds.r) κs)
    → message_read.Post κs a r e → message_read.Post κs a r' e' → r ≡ r'
message_read_determined κs a r r' e e' p q = p ∙ sym q

pub dawnstook_build_message_determined :
    (κs : Lfts 2) (a : Dens κs build_message_kinds.ps) (r r' : (res_t build_message_kinds.r κs).Denot)
    (e e' : AtExit (ended_of 2 build_message_kinds.ps build_message_kinds.r) κs)
    → build_message.Post κs a r e → build_message.Post κs a r' e'
    → (r ≡ r') × (e.0.now ≡ e'.0.now)
dawnstook_build_message_determined κs a r r' e e' p q = (p.0 ∙ sym q.0, p.1 ∙ sym q.1)

pub dawnstook_read_message_determined :
    (κs : Lfts 2) (a : Dens κs read_message_kinds.ps) (r r' : (res_t read_message_kinds.r κs).Denot)
    (e e' : AtExit (ended_of 2 read_message_kinds.ps read_message_kinds.r) κs)
    → read_message.Post κs a r e → read_message.Post κs a r' e'
    → (r ≡ r') × (e.0.now ≡ e'.0.now)
dawnstook_read_message_determined κs a r r' e e' p q = (p.0 ∙ sym q.0, p.1 ∙ sym q.1)

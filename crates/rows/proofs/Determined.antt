-- The promises of `rows` are tight: any two outcomes that a contract permits are equal, the answer, and the row that `mark_row` leaves.
use mathlib.Core.Path.{◌≡◌, sym, ◌∙◌}
use borrow.Fn.Kinds.{res_t, ended_of, Dens}
use denote.Triple.Clauses.{AtExit}
use contract.Lifetimes.{Lfts}
use Rattle.rows.proofs.depth.Reads as depth_reads
use Rattle.rows.proofs.depth.Kinds as depth_kinds
use Rattle.rows.proofs.slots.Reads as slots_reads
use Rattle.rows.proofs.slots.Kinds as slots_kinds
use Rattle.rows.proofs.current.Reads as current_reads
use Rattle.rows.proofs.current.Kinds as current_kinds
use Rattle.rows.proofs.by_time.Reads as by_time_reads
use Rattle.rows.proofs.by_time.Kinds as by_time_kinds
use Rattle.rows.proofs.row.Reads as row_reads
use Rattle.rows.proofs.row.Kinds as row_kinds
use Rattle.rows.proofs.room_size.Reads as room_size_reads
use Rattle.rows.proofs.room_size.Kinds as room_size_kinds
use Rattle.rows.proofs.slot_start.Reads as slot_start_reads
use Rattle.rows.proofs.slot_start.Kinds as slot_start_kinds
use Rattle.rows.proofs.is_marked.Reads as is_marked_reads
use Rattle.rows.proofs.is_marked.Kinds as is_marked_kinds
use Rattle.rows.proofs.row_size.Reads as row_size_reads
use Rattle.rows.proofs.row_size.Kinds as row_size_kinds
use Rattle.rows.proofs.row_start.Reads as row_start_reads
use Rattle.rows.proofs.row_start.Kinds as row_start_kinds
use Rattle.rows.proofs.record_start.Reads as record_start_reads
use Rattle.rows.proofs.record_start.Kinds as record_start_kinds
use Rattle.rows.proofs.next_row.Reads as next_row_reads
use Rattle.rows.proofs.next_row.Kinds as next_row_kinds
use Rattle.rows.proofs.row_back.Reads as row_back_reads
use Rattle.rows.proofs.row_back.Kinds as row_back_kinds
use Rattle.rows.proofs.is_at.Reads as is_at_reads
use Rattle.rows.proofs.is_at.Kinds as is_at_kinds
use Rattle.rows.proofs.mark_row.Reads as mark_row_reads
use Rattle.rows.proofs.mark_row.Kinds as mark_row_kinds

pub depth_determined :
    (κs : Lfts 1)
    (a : Dens κs depth_kinds.ps)
    (r r' : (res_t depth_kinds.r κs).Denot)
    (e e' : AtExit (ended_of 1 depth_kinds.ps depth_kinds.r) κs)
    → depth_reads.Post κs a r e → depth_reads.Post κs a r' e' → r ≡ r'
depth_determined κs a r r' e e' p q = p.0 ∙ sym q.0

pub slots_determined :
    (κs : Lfts 1)
    (a : Dens κs slots_kinds.ps)
    (r r' : (res_t slots_kinds.r κs).Denot)
    (e e' : AtExit (ended_of 1 slots_kinds.ps slots_kinds.r) κs)
    → slots_reads.Post κs a r e → slots_reads.Post κs a r' e' → r ≡ r'
slots_determined κs a r r' e e' p q = p.0 ∙ sym q.0

pub current_determined :
    (κs : Lfts 1)
    (a : Dens κs current_kinds.ps)
    (r r' : (res_t current_kinds.r κs).Denot)
    (e e' : AtExit (ended_of 1 current_kinds.ps current_kinds.r) κs)
    → current_reads.Post κs a r e → current_reads.Post κs a r' e' → r ≡ r'
current_determined κs a r r' e e' p q = p.0 ∙ sym q.0

pub by_time_determined :
    (κs : Lfts 1)
    (a : Dens κs by_time_kinds.ps)
    (r r' : (res_t by_time_kinds.r κs).Denot)
    (e e' : AtExit (ended_of 1 by_time_kinds.ps by_time_kinds.r) κs)
    → by_time_reads.Post κs a r e → by_time_reads.Post κs a r' e' → r ≡ r'
by_time_determined κs a r r' e e' p q = p ∙ sym q

pub row_determined :
    (κs : Lfts 1)
    (a : Dens κs row_kinds.ps)
    (r r' : (res_t row_kinds.r κs).Denot)
    (e e' : AtExit (ended_of 1 row_kinds.ps row_kinds.r) κs)
    → row_reads.Post κs a r e → row_reads.Post κs a r' e' → r.now ≡ r'.now
row_determined κs a r r' e e' p q = p.0 ∙ sym q.0

pub room_size_determined :
    (κs : Lfts 0)
    (a : Dens κs room_size_kinds.ps)
    (r r' : (res_t room_size_kinds.r κs).Denot)
    (e e' : AtExit (ended_of 0 room_size_kinds.ps room_size_kinds.r) κs)
    → room_size_reads.Post κs a r e → room_size_reads.Post κs a r' e' → r ≡ r'
room_size_determined κs a r r' e e' p q = p ∙ sym q

pub slot_start_determined :
    (κs : Lfts 0)
    (a : Dens κs slot_start_kinds.ps)
    (r r' : (res_t slot_start_kinds.r κs).Denot)
    (e e' : AtExit (ended_of 0 slot_start_kinds.ps slot_start_kinds.r) κs)
    → slot_start_reads.Post κs a r e → slot_start_reads.Post κs a r' e' → r ≡ r'
slot_start_determined κs a r r' e e' p q = p ∙ sym q

pub is_marked_determined :
    (κs : Lfts 1)
    (a : Dens κs is_marked_kinds.ps)
    (r r' : (res_t is_marked_kinds.r κs).Denot)
    (e e' : AtExit (ended_of 1 is_marked_kinds.ps is_marked_kinds.r) κs)
    → is_marked_reads.Post κs a r e → is_marked_reads.Post κs a r' e' → r ≡ r'
is_marked_determined κs a r r' e e' p q = p ∙ sym q

pub row_size_determined :
    (κs : Lfts 0)
    (a : Dens κs row_size_kinds.ps)
    (r r' : (res_t row_size_kinds.r κs).Denot)
    (e e' : AtExit (ended_of 0 row_size_kinds.ps row_size_kinds.r) κs)
    → row_size_reads.Post κs a r e → row_size_reads.Post κs a r' e' → r ≡ r'
row_size_determined κs a r r' e e' p q = p ∙ sym q

pub row_start_determined :
    (κs : Lfts 0)
    (a : Dens κs row_start_kinds.ps)
    (r r' : (res_t row_start_kinds.r κs).Denot)
    (e e' : AtExit (ended_of 0 row_start_kinds.ps row_start_kinds.r) κs)
    → row_start_reads.Post κs a r e → row_start_reads.Post κs a r' e' → r ≡ r'
row_start_determined κs a r r' e e' p q = p ∙ sym q

pub record_start_determined :
    (κs : Lfts 0)
    (a : Dens κs record_start_kinds.ps)
    (r r' : (res_t record_start_kinds.r κs).Denot)
    (e e' : AtExit (ended_of 0 record_start_kinds.ps record_start_kinds.r) κs)
    → record_start_reads.Post κs a r e → record_start_reads.Post κs a r' e' → r ≡ r'
record_start_determined κs a r r' e e' p q = p ∙ sym q

pub next_row_determined :
    (κs : Lfts 0)
    (a : Dens κs next_row_kinds.ps)
    (r r' : (res_t next_row_kinds.r κs).Denot)
    (e e' : AtExit (ended_of 0 next_row_kinds.ps next_row_kinds.r) κs)
    → next_row_reads.Post κs a r e → next_row_reads.Post κs a r' e' → r ≡ r'
next_row_determined κs a r r' e e' p q = p ∙ sym q

pub row_back_determined :
    (κs : Lfts 0)
    (a : Dens κs row_back_kinds.ps)
    (r r' : (res_t row_back_kinds.r κs).Denot)
    (e e' : AtExit (ended_of 0 row_back_kinds.ps row_back_kinds.r) κs)
    → row_back_reads.Post κs a r e → row_back_reads.Post κs a r' e' → r ≡ r'
row_back_determined κs a r r' e e' p q = p ∙ sym q

pub is_at_determined :
    (κs : Lfts 1)
    (a : Dens κs is_at_kinds.ps)
    (r r' : (res_t is_at_kinds.r κs).Denot)
    (e e' : AtExit (ended_of 1 is_at_kinds.ps is_at_kinds.r) κs)
    → is_at_reads.Post κs a r e → is_at_reads.Post κs a r' e' → r ≡ r'
is_at_determined κs a r r' e e' p q = p ∙ sym q

pub mark_row_determined :
    (κs : Lfts 1)
    (a : Dens κs mark_row_kinds.ps)
    (r r' : (res_t mark_row_kinds.r κs).Denot)
    (e e' : AtExit (ended_of 1 mark_row_kinds.ps mark_row_kinds.r) κs)
    → mark_row_reads.Post κs a r e → mark_row_reads.Post κs a r' e' → e.0.now ≡ e'.0.now
mark_row_determined κs a r r' e e' p q = p ∙ sym q

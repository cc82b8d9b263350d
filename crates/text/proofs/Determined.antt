-- The promises of `text` are tight: any two outcomes that a contract permits are equal, the place behind the text and the bytes at exit.
use mathlib.Core.Path.{◌≡◌}
use borrow.Fn.Kinds.{res_t, ended_of, Dens}
use denote.Triple.Clauses.{AtExit}
use contract.Lifetimes.{Lfts}
use Rattle.text.proofs.Puts.{put_one}
use Rattle.text.proofs.put_bytes.Reads as put_bytes_reads
use Rattle.text.proofs.put_bytes.Kinds as put_bytes_kinds
use Rattle.text.proofs.put_decimal.Reads as put_decimal_reads
use Rattle.text.proofs.put_decimal.Kinds as put_decimal_kinds
use Rattle.text.proofs.put_hex.Reads as put_hex_reads
use Rattle.text.proofs.put_hex.Kinds as put_hex_kinds
use Rattle.text.proofs.put_hex32.Reads as put_hex32_reads
use Rattle.text.proofs.put_hex32.Kinds as put_hex32_kinds

pub put_bytes_determined :
    (κs : Lfts 2)
    (a : Dens κs put_bytes_kinds.ps)
    (r r' : (res_t put_bytes_kinds.r κs).Denot)
    (e e' : AtExit (ended_of 2 put_bytes_kinds.ps put_bytes_kinds.r) κs)
    → put_bytes_reads.Post κs a r e → put_bytes_reads.Post κs a r' e' → (e.0.now ≡ e'.0.now) × (r ≡ r')
put_bytes_determined κs a r r' e e' p q = put_one p q

pub put_decimal_determined :
    (κs : Lfts 1)
    (a : Dens κs put_decimal_kinds.ps)
    (r r' : (res_t put_decimal_kinds.r κs).Denot)
    (e e' : AtExit (ended_of 1 put_decimal_kinds.ps put_decimal_kinds.r) κs)
    → put_decimal_reads.Post κs a r e → put_decimal_reads.Post κs a r' e' → (e.0.now ≡ e'.0.now) × (r ≡ r')
put_decimal_determined κs a r r' e e' p q = put_one p.0 q.0

pub put_hex_determined :
    (κs : Lfts 2)
    (a : Dens κs put_hex_kinds.ps)
    (r r' : (res_t put_hex_kinds.r κs).Denot)
    (e e' : AtExit (ended_of 2 put_hex_kinds.ps put_hex_kinds.r) κs)
    → put_hex_reads.Post κs a r e → put_hex_reads.Post κs a r' e' → (e.0.now ≡ e'.0.now) × (r ≡ r')
put_hex_determined κs a r r' e e' p q = put_one p q

pub put_hex32_determined :
    (κs : Lfts 1)
    (a : Dens κs put_hex32_kinds.ps)
    (r r' : (res_t put_hex32_kinds.r κs).Denot)
    (e e' : AtExit (ended_of 1 put_hex32_kinds.ps put_hex32_kinds.r) κs)
    → put_hex32_reads.Post κs a r e → put_hex32_reads.Post κs a r' e' → (e.0.now ≡ e'.0.now) × (r ≡ r')
put_hex32_determined κs a r r' e e' p q = put_one p q

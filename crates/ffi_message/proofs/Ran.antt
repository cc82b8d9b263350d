-- STORE 21.5, of the exports: a message that was built through C, read back through C; two that were built through C; and what was read through C,
-- built again through C. By the laws over calls in Rattle and through C alike, so the calls may be of either. Assumes nothing.
use borrow.Fn.Kinds.{res_t, ended_of, Dens}
use denote.Triple.Clauses.{AtExit}
use contract.Lifetimes.{Lfts}
use native.Mathlib.Omega.{arith}
use mathlib.Core.Bool.{true}
use mathlib.Core.List.{List, [], ◌∷◌}
use mathlib.Core.Path.{◌≡◌, refl, ap, ◌∙◌}
use Prim.Native.Nat.{ℕ, zero, suc, ◌≤◌}
use lib.ListN.{length, take}
use Rattle.paper.specs.Number.{done, answer}
use Rattle.paper.specs.Parts.{on_part}
use Rattle.paper.specs.Record.{data_bytes, same_bits}
use Rattle.paper.specs.Satellite.{is_satellite}
use Rattle.paper.specs.Message.{Head, form_family, message_bytes, head_values, carried, clean, build_number, build_answer, read_head, read_number, read_answer}
use Rattle.message.proofs.Either.{BuildRan, ReadRan, reads_back, two_carry, builds_again}
use Rattle.ffi_message.specs.declared.MessageBuilt.{MessageBuilt}
use Rattle.ffi_message.specs.declared.MessageRead.{MessageRead}
use Rattle.ffi_message.specs.Handed.{head_given, built_handed, read_handed, head_read}
use Rattle.ffi_message.proofs.dawnstook_build_message.Reads as build
use Rattle.ffi_message.proofs.dawnstook_build_message.Kinds as build_kinds
use Rattle.ffi_message.proofs.dawnstook_read_message.Reads as read
use Rattle.ffi_message.proofs.dawnstook_read_message.Kinds as read_kinds

-- ---- what a call was given
abbrev pub given_to : (κs : Lfts 2) → Dens κs build_kinds.ps → List ℕ
given_to κs a = a.1.0.now

abbrev pub head_to : (κs : Lfts 2) → Dens κs build_kinds.ps → Head
head_to κs a =
    head_given a.1.1.1.0 a.1.1.0 a.1.1.1.1.0 a.1.1.1.1.1.0 a.1.1.1.1.1.1.1.1.0 a.1.1.1.1.1.1.1.0

abbrev pub form_to : (κs : Lfts 2) → Dens κs build_kinds.ps → ℕ
form_to κs a = a.1.1.1.1.1.1.0

-- ---- the struct that is handed back has the answer's number and values
a_done : (k n : ℕ) (r : MessageBuilt) → r ≡ built_handed (answer k (n ∷ [])) → r.number ≡ 0 → done (r.bytes ∷ []) ≡ answer k (n ∷ [])
a_done zero n r e z = ap (λ (x : MessageBuilt). done (x.bytes ∷ [])) e
a_done (suc k) n r e z = absurd (omega (arith, ap (λ (x : MessageBuilt). x.number) e))

fields_done : (k : ℕ) (h : Head) (r : MessageRead) → r ≡ read_handed (answer k (head_values h)) → r.number ≡ 0
    → done (head_values (head_read r)) ≡ answer k (head_values h)
fields_done zero h r e z = ap (λ (x : MessageRead). done (head_values (head_read x))) e
fields_done (suc k) h r e z = absurd (omega (arith, ap (λ (x : MessageRead). x.number) e))

-- ---- a call through C is one of those that the laws are over
module _ (κs : Lfts 2) (a : Dens κs build_kinds.ps) (r : (res_t build_kinds.r κs).Denot) (e : AtExit (ended_of 2 build_kinds.ps build_kinds.r) κs)
    (p : build.Post κs a r e) where
  build_ran : BuildRan (form_to κs a) (head_to κs a) (given_to κs a) a.0.now e.0.now (build_answer (form_to κs a) (head_to κs a) (given_to κs a) a.0.now)
  build_ran = record { answers = refl; leaves = p.1; bytes = p.2 }

  pub exported_build_ran : r.number ≡ 0 → BuildRan (form_to κs a) (head_to κs a) (given_to κs a) a.0.now e.0.now (done (r.bytes ∷ []))
  unfolding build_answer
  exported_build_ran z =
      record { answers = a_done (build_number (form_to κs a) (head_to κs a) (given_to κs a) a.0.now) (message_bytes (form_to κs a)) r p.0 z; leaves = p.1; bytes = p.2 }

module _ (κs : Lfts 2) (a : Dens κs read_kinds.ps) (r : (res_t read_kinds.r κs).Denot) (e : AtExit (ended_of 2 read_kinds.ps read_kinds.r) κs)
    (p : read.Post κs a r e) where
  read_ran : ReadRan a.1.1.0 a.1.0.now a.0.now e.0.now (read_answer a.1.1.0 a.1.0.now a.0.now)
  read_ran = record { answers = refl; leaves = p.1; bytes = p.2 }

  pub exported_read_ran : r.number ≡ 0 → ReadRan a.1.1.0 a.1.0.now a.0.now e.0.now (done (head_values (head_read r)))
  unfolding read_answer
  exported_read_ran z =
      let form = a.1.1.0 in
      let m = a.1.0.now in
      record { answers = fields_done (read_number form m a.0.now) (read_head form m) r p.0 z; leaves = p.1; bytes = p.2 }

-- ---- the three
pub exported_built_and_read :
    (κs : Lfts 2) (a : Dens κs build_kinds.ps) (r : (res_t build_kinds.r κs).Denot) (e : AtExit (ended_of 2 build_kinds.ps build_kinds.r) κs)
    → build.Post κs a r e → r.number ≡ 0
    → (κs' : Lfts 2) (b : Dens κs' read_kinds.ps) (r' : (res_t read_kinds.r κs').Denot) (e' : AtExit (ended_of 2 read_kinds.ps read_kinds.r) κs')
    → read.Post κs' b r' e'
    → let form = form_to κs a in
    b.1.1.0 ≡ form → b.1.0.now ≡ take r.bytes e.0.now → data_bytes (form_family form) ≤ length b.0.now
    → (r' ≡ read_handed (done (head_values (carried form (head_to κs a)))))
    × (e'.0.now ≡ on_part (λ (_ : List ℕ). clean form (given_to κs a)) 0 (data_bytes (form_family form)) b.0.now)
exported_built_and_read κs a r e p z κs' b r' e' q same-form same_bytes room =
    let back = reads_back _ _ _ _ _ r.bytes (exported_build_ran κs a r e p z) _ _ _ _ _ (read_ran κs' b r' e' q) same-form same_bytes room in
    (q.0 ∙ ap read_handed back.0, back.1)

pub exported_two_built :
    (κs : Lfts 2) (a : Dens κs build_kinds.ps) (r : (res_t build_kinds.r κs).Denot) (e : AtExit (ended_of 2 build_kinds.ps build_kinds.r) κs)
    → build.Post κs a r e → r.number ≡ 0
    → (κs' : Lfts 2) (b : Dens κs' build_kinds.ps) (r' : (res_t build_kinds.r κs').Denot) (e' : AtExit (ended_of 2 build_kinds.ps build_kinds.r) κs')
    → build.Post κs' b r' e' → r'.number ≡ 0
    → let form = form_to κs a in
    form_to κs' b ≡ form → take r.bytes e.0.now ≡ take r'.bytes e'.0.now
    → (carried form (head_to κs a) ≡ carried form (head_to κs' b)) × (same_bits (form_family form) (given_to κs a) (given_to κs' b) ≡ true)
exported_two_built κs a r e p z κs' b r' e' q z' =
    two_carry _ _ _ _ _ r.bytes (exported_build_ran κs a r e p z) _ _ _ _ _ r'.bytes (exported_build_ran κs' b r' e' q z')

pub exported_read_and_built :
    (κs : Lfts 2) (a : Dens κs read_kinds.ps) (r : (res_t read_kinds.r κs).Denot) (e : AtExit (ended_of 2 read_kinds.ps read_kinds.r) κs)
    → read.Post κs a r e → r.number ≡ 0
    → (κs' : Lfts 2) (b : Dens κs' build_kinds.ps) (r' : (res_t build_kinds.r κs').Denot) (e' : AtExit (ended_of 2 build_kinds.ps build_kinds.r) κs')
    → build.Post κs' b r' e'
    → let form = a.1.1.0 in
    form_to κs' b ≡ form → carried form (head_to κs' b) ≡ head_read r → is_satellite (head_to κs' b).prnd ≡ true
    → given_to κs' b ≡ take (data_bytes (form_family form)) e.0.now → message_bytes form ≤ length b.0.now
    → (r' ≡ built_handed (done (message_bytes form ∷ []))) × (e'.0.now ≡ on_part (λ (_ : List ℕ). a.1.0.now) 0 (message_bytes form) b.0.now)
exported_read_and_built κs a r e p z κs' b r' e' q same-form same_head owner same-data room =
    let ran = exported_read_ran κs a r e p z in
    let again = builds_again _ _ _ _ (head_read r) ran _ _ _ _ _ _ (build_ran κs' b r' e' q) same-form same_head owner same-data room in
    (q.0 ∙ ap built_handed again.0, again.1)

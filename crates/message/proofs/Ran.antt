-- STORE 21.5, of the running code in Rattle: a message that `build` left in a buffer, read back by `read`; two that `build` left; and what `read`
-- handed out, built again by `build`. Nothing is asked of what is lent: that it is bytes is in the contracts. Assumes nothing.
use borrow.Fn.Kinds.{res_t, ended_of, Dens}
use denote.Triple.Clauses.{AtExit}
use contract.Lifetimes.{Lfts}
use mathlib.Core.Bool.{true}
use mathlib.Core.List.{List}
use mathlib.Core.Path.{◌≡◌}
use Prim.Native.Nat.{ℕ, ◌≤◌}
use lib.ListN.{length, take}
use Rattle.std.specs.Prelude.{Ok}
use Rattle.paper.specs.Number.{done}
use Rattle.paper.specs.Parts.{on_part}
use Rattle.paper.specs.Record.{data_bytes, same_bits}
use Rattle.paper.specs.Satellite.{is_satellite}
use Rattle.paper.specs.Message.{form_family, message_bytes, head_values, carried, clean}
use Rattle.message.specs.declared.Heading.{Heading}
use Rattle.message.specs.Outcome.{head_of, built_answer, read_back_answer}
use Rattle.message.proofs.Either.{BuildRan, ReadRan, reads_back, two_carry, builds_again}
use Rattle.message.proofs.OneToOne.{built_one}
use Rattle.message.proofs.build.Reads as build
use Rattle.message.proofs.build.Kinds as build_kinds
use Rattle.message.proofs.read.Reads as read
use Rattle.message.proofs.read.Kinds as read_kinds

pub build_ran :
    (κs : Lfts 2) (a : Dens κs build_kinds.ps) (r : (res_t build_kinds.r κs).Denot) (e : AtExit (ended_of 2 build_kinds.ps build_kinds.r) κs)
    → build.Post κs a r e
    → BuildRan a.1.0 (head_of a.1.1.0) a.1.1.1.0.now a.0.now e.0.now (built_answer r)
build_ran κs a r e p = record { answers = p.0; leaves = p.1; bytes = p.2 }

pub read_ran :
    (κs : Lfts 2) (a : Dens κs read_kinds.ps) (r : (res_t read_kinds.r κs).Denot) (e : AtExit (ended_of 2 read_kinds.ps read_kinds.r) κs)
    → read.Post κs a r e
    → ReadRan a.1.0 a.1.1.0.now a.0.now e.0.now (read_back_answer r)
read_ran κs a r e p = record { answers = p.0; leaves = p.1; bytes = p.2 }

pub built_and_read :
    (κs : Lfts 2) (a : Dens κs build_kinds.ps) (n : ℕ) (e : AtExit (ended_of 2 build_kinds.ps build_kinds.r) κs) → build.Post κs a (Ok n) e
    → (κs' : Lfts 2) (b : Dens κs' read_kinds.ps) (r : (res_t read_kinds.r κs').Denot) (e' : AtExit (ended_of 2 read_kinds.ps read_kinds.r) κs')
    → read.Post κs' b r e'
    → let form = a.1.0 in
    b.1.0 ≡ form → b.1.1.0.now ≡ take n e.0.now → data_bytes (form_family form) ≤ length b.0.now
    → (read_back_answer r ≡ done (head_values (carried form (head_of a.1.1.0))))
    × (e'.0.now ≡ on_part (λ (_ : List ℕ). clean form a.1.1.1.0.now) 0 (data_bytes (form_family form)) b.0.now)
built_and_read κs a n e p κs' b r e' q = reads_back _ _ _ _ _ n (build_ran κs a (Ok n) e p) _ _ _ _ _ (read_ran κs' b r e' q)

pub two_built :
    (κs : Lfts 2) (a : Dens κs build_kinds.ps) (n : ℕ) (e : AtExit (ended_of 2 build_kinds.ps build_kinds.r) κs) → build.Post κs a (Ok n) e
    → (κs' : Lfts 2) (b : Dens κs' build_kinds.ps) (k : ℕ) (e' : AtExit (ended_of 2 build_kinds.ps build_kinds.r) κs') → build.Post κs' b (Ok k) e'
    → let form = a.1.0 in
    b.1.0 ≡ form → take n e.0.now ≡ take k e'.0.now
    → (carried form (head_of a.1.1.0) ≡ carried form (head_of b.1.1.0))
    × (same_bits (form_family form) a.1.1.1.0.now b.1.1.1.0.now ≡ true)
two_built κs a n e p κs' b k e' q = two_carry _ _ _ _ _ n (build_ran κs a (Ok n) e p) _ _ _ _ _ k (build_ran κs' b (Ok k) e' q)

pub read_and_built :
    (κs : Lfts 2) (a : Dens κs read_kinds.ps) (h : Heading) (e : AtExit (ended_of 2 read_kinds.ps read_kinds.r) κs) → read.Post κs a (Ok h) e
    → (κs' : Lfts 2) (b : Dens κs' build_kinds.ps) (r : (res_t build_kinds.r κs').Denot) (e' : AtExit (ended_of 2 build_kinds.ps build_kinds.r) κs')
    → build.Post κs' b r e'
    → let form = a.1.0 in
    let g = head_of b.1.1.0 in
    b.1.0 ≡ form → carried form g ≡ head_of h → is_satellite g.prnd ≡ true → b.1.1.1.0.now ≡ take (data_bytes (form_family form)) e.0.now
    → message_bytes form ≤ length b.0.now
    → (r ≡ Ok (message_bytes form)) × (e'.0.now ≡ on_part (λ (_ : List ℕ). a.1.1.0.now) 0 (message_bytes form) b.0.now)
read_and_built κs a h e p κs' b r e' q same-form same_head owner same-data room =
    let again = builds_again _ _ _ _ (head_of h) (read_ran κs a (Ok h) e p) _ _ _ _ _ _ (build_ran κs' b r e' q) same-form same_head owner same-data room in
    (built_one r (Ok (message_bytes a.1.0)) again.0, again.1)

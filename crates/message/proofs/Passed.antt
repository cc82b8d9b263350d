-- "Order": a message that is built, or read back, has passed its tests. Assumes nothing.
use mathlib.Core.Bool.{true, ◌&&◌}
use mathlib.Core.List.{List}
use mathlib.Core.Path.{◌≡◌}
use Prim.Native.Nat.{ℕ, ◌^◌, ◌≤◌, ◌<◌}
use native.Mathlib.Omega.{arith}
use borrow.Author.Tests.{ltb-true, leb-true, eqb-true}
use lib.Dec.{eqb, leb}
use lib.ListN.{length}
use Rattle.paper.specs.Time.{week_seconds, is_time, is_start}
use Rattle.paper.specs.Satellite.{is_satellite}
use Rattle.paper.specs.Record.{data_bytes}
use Rattle.paper.specs.Tag.{status_known}
use Rattle.paper.specs.Message.{Head, form_known, form_family, message_bytes, most_week, counter_allowed, build_number}
use Rattle.paper.proofs.Order.{unless_zero}
use Rattle.paper.proofs.StoreFacts.{both_true}
use Rattle.message.proofs.Joined.{Fits}

-- what the tests of building say
pub record Allowed (form : ℕ) (h : Head) (bytes buffer : List ℕ) : Type 0 where
  pub sender : is_satellite h.prna ≡ true
  pub owner : is_satellite h.prnd ≡ true
  pub a_time : is_time h.time ≡ true
  pub a_start : is_start h.time ≡ true
  pub a_form : form_known form ≡ true
  pub a_status : status_known h.status ≡ true
  pub a_week : leb h.week most_week ≡ true
  pub a_counter : counter_allowed h.counter ≡ true
  pub as_long : length bytes ≡ data_bytes (form_family form)
  pub with_room : message_bytes form ≤ length buffer

pub build_passed : (form : ℕ) (h : Head) (bytes buffer : List ℕ) → build_number form h bytes buffer ≡ 0 → Allowed form h bytes buffer
unfolding build_number
build_passed form h bytes buffer e =
    let a = unless_zero (is_satellite h.prna && is_satellite h.prnd) 4 _ (omega arith) e in
    let b = unless_zero (is_time h.time) 5 _ (omega arith) a.1 in
    let c = unless_zero (is_start h.time) 6 _ (omega arith) b.1 in
    let d = unless_zero (form_known form && status_known h.status) 9 _ (omega arith) c.1 in
    let w = unless_zero (leb h.week most_week) 7 _ (omega arith) d.1 in
    let l = unless_zero (counter_allowed h.counter && eqb (length bytes) (data_bytes (form_family form)) && leb (message_bytes form) (length buffer)) 8 0 (omega arith) w.1 in
    let sats = both_true (is_satellite h.prna) (is_satellite h.prnd) a.0 in
    let known = both_true (form_known form) (status_known h.status) d.0 in
    let room = both_true (counter_allowed h.counter && eqb (length bytes) (data_bytes (form_family form))) (leb (message_bytes form) (length buffer)) l.0 in
    let long = both_true (counter_allowed h.counter) (eqb (length bytes) (data_bytes (form_family form))) room.0 in
    record {
      sender = sats.0;
      owner = sats.1;
      a_time = b.0;
      a_start = c.0;
      a_form = known.0;
      a_status = known.1;
      a_week = w.0;
      a_counter = long.0;
      as_long = eqb-true _ _ long.1;
      with_room = leb-true _ _ room.1;
    }

-- a satellite's number fits a byte
pub satellite_fits : (s : ℕ) → is_satellite s ≡ true → s < 2 ^ 8
satellite_fits s e = omega (arith, leb-true s 36 (both_true (leb 1 s) (leb s 36) e).1)

pub counter_most : (c : ℕ) → counter_allowed c ≡ true → c < 2 ^ 8
counter_most c e = omega (arith, leb-true c 255 (both_true (leb 1 c) (leb c 255) e).1)

-- so the fields fit
pub allowed_fits : (form : ℕ) (h : Head) (bytes buffer : List ℕ) → Allowed form h bytes buffer → Fits h
allowed_fits form h bytes buffer p =
    record {
      prna_fits = satellite_fits h.prna p.sender;
      week_fits = omega (arith, leb-true h.week most_week p.a_week);
      time_fits = omega (arith, ltb-true h.time week_seconds p.a_time);
      counter_fits = counter_most h.counter p.a_counter;
      status_fits = omega (arith, leb-true h.status 3 p.a_status);
    }

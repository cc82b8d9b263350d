-- Bytes that are heard one behind the other are heard as one, and behind the end of an input all are. Assumes nothing.
use native.Mathlib.Omega.{arith}
use mathlib.Core.Path.{◌≡◌, refl, sym, ap, ◌∙◌}
use Rattle.std.specs.Prelude.{Option, Some, None}
use mathlib.Core.List.{List, [], ◌∷◌, ◌++◌}
use Prim.Native.Nat.{ℕ, ◌+◌, ◌≤◌}
use lib.ListN.{length, take, drop, replicate, take-append-drop, length-append}
use Rattle.intake.specs.Input.{Stage, going, ended, stage_of, items_of, stage_at_end, room_of}
use Rattle.intake.specs.Reader.{reader_bytes, stage_in, reader_of, stage_number}
use Rattle.intake.proofs.Along.{stages, items, rooms, stages_ended, items_ended_lem}
use Rattle.intake.proofs.State.{stage_back}
use Rattle.intake.proofs.Examples.{zeros}
use Rattle.reader.specs.declared.Course.{Course}
use Rattle.reader.specs.declared.Course.TheVariants.{More, Over, Finished, Unread, Unwritten}
use Rattle.reader.specs.Turns.{HeardAll, HeardToEnd, GoesOn, TakenBy, ReadBy, Turned}

pub heard_none : (reader room : List ℕ) → HeardAll reader room [] reader room
unfolding stage_of items_of room_of
heard_none reader room = record { stands = refl; leaves = refl }

module _ {reader room reader' room' : List ℕ} where
  pub heard_then : {a b reader'' room'' : List ℕ} → HeardAll reader room a reader' room' → HeardAll reader' room' b reader'' room'' → HeardAll reader room (a ++ b) reader'' room''
  heard_then {a} {b} {reader''} {room''} p q =
      let s = stage_in reader in
      record {
        stands = q.stands ∙ ap (λ (x : Stage). stage_of x b) p.stands ∙ sym (stages s a b);
        leaves =
            q.leaves
            ∙ rw (p.stands, p.leaves, items s a b) (sym (rooms room (items_of s a) (items_of (stage_of s a) b)));
      }

  pub end_then : {a b reader'' room'' : List ℕ} → HeardAll reader room a reader' room' → HeardToEnd reader' room' b reader'' room'' → HeardToEnd reader room (a ++ b) reader'' room''
  end_then {a} {b} {reader''} {room''} p q =
      let s = stage_in reader in
      record {
        stands = q.stands ∙ ap (λ (x : Stage). stage_at_end (stage_of x b)) p.stands ∙ ap stage_at_end (sym (stages s a b));
        leaves =
            q.leaves
            ∙ rw (p.stands, p.leaves, items s a b) (sym (rooms room (items_of s a) (items_of (stage_of s a) b)));
      }

  -- the reader has ended: what stands behind is heard, since nothing of it is
  pub heard_over : (n : ℕ) (bytes : List ℕ) → HeardAll reader room (take n bytes) reader' room' → (GoesOn reader' → ⊥) → HeardAll reader room bytes reader' room'
  unfolding room_of
  heard_over n bytes p h = rw (take-append-drop n bytes) at (heard_then p (rest (stage_in reader') refl))
    where
      rest : (s : Stage) → stage_in reader' ≡ s → HeardAll reader' room' (drop n bytes) reader' room'
      rest (going kept) e = absurd (h (ap stage_number e))
      rest (ended k) e =
          record {
            stands = rw e (sym (stages_ended k (drop n bytes)));
            leaves = rw (e, items_ended_lem k (drop n bytes)) refl;
          }

-- ---- the end
end_back : (s : Stage) → stage_in (reader_of (stage_at_end s)) ≡ stage_at_end s
unfolding stage_at_end
end_back (going []) = stage_back (ended 0) tt
end_back (going (b ∷ l)) = stage_back (ended 14) tt
end_back (ended k) = stage_back (ended k) tt

pub heard_end :
    (reader room reader' : List ℕ) → reader' ≡ reader_of (stage_at_end (stage_in reader))
    → HeardToEnd reader room [] reader' room
unfolding stage_of items_of room_of
heard_end reader room reader' e = record { stands = ap stage_in e ∙ end_back (stage_in reader); leaves = refl }

-- ---- turns
-- bytes that were read and taken, one of them at least
pub taken_read : (course : Course) (reader room bytes reader' room' : List ℕ) → (length bytes ≡ 0 → ⊥)
    → TakenBy course reader room bytes reader' room' → ReadBy course (Some bytes) reader room reader' room'
taken_read More reader room bytes reader' room' some t = (some, t)
taken_read Over reader room bytes reader' room' some t = (some, t)
taken_read Unwritten reader room bytes reader' room' some t = (some, t)
taken_read Finished reader room bytes reader' room' some t = absurd t
taken_read Unread reader room bytes reader' room' some t = absurd t

-- what a read came to is a turn
pub read_turned : (course : Course) (read : Option (List ℕ)) (reader room reader' room' : List ℕ) → ReadBy course read reader room reader' room'
    → Turned course 1 reader room reader' room'
read_turned More (Some bytes) reader room reader' room' t =
    let some = t.0 in
    record { bytes = bytes; case = (t.1.0, (t.1.1, omega arith)) }
read_turned Over (Some bytes) reader room reader' room' t = record { bytes = bytes; case = t.1 }
read_turned Finished (Some bytes) reader room reader' room' t = record { bytes = []; case = t.1 }
read_turned Unread (Some bytes) reader room reader' room' t = absurd t
read_turned Unwritten (Some bytes) reader room reader' room' t = record { bytes = take t.1.count bytes; case = t.1.heard }
read_turned More None reader room reader' room' t = absurd t
read_turned Over None reader room reader' room' t = absurd t
read_turned Finished None reader room reader' room' t = absurd t
read_turned Unread None reader room reader' room' t = record { bytes = []; case = t }
read_turned Unwritten None reader room reader' room' t = absurd t

-- a turn more
pub turned_then : (course : Course) (n least : ℕ) (reader room reader' room' reader'' room'' : List ℕ)
    → Turned More n reader room reader' room' → Turned course least reader' room' reader'' room'' → Turned course (n + least) reader room reader'' room''
turned_then More n least reader room reader' room' reader'' room'' p q =
    record {
      bytes = p.bytes ++ q.bytes;
      case = (heard_then p.case.0 q.case.0, (q.case.1.0, rw (length-append p.bytes q.bytes) (omega (arith, p.case.1.1, q.case.1.1))));
    }
turned_then Over n least reader room reader' room' reader'' room'' p q =
    record { bytes = p.bytes ++ q.bytes; case = (heard_then p.case.0 q.case.0, q.case.1) }
turned_then Finished n least reader room reader' room' reader'' room'' p q = record { bytes = p.bytes ++ q.bytes; case = end_then p.case.0 q.case }
turned_then Unread n least reader room reader' room' reader'' room'' p q =
    record { bytes = p.bytes ++ q.bytes; case = (heard_then p.case.0 q.case.0, q.case.1) }
turned_then Unwritten n least reader room reader' room' reader'' room'' p q = record { bytes = p.bytes ++ q.bytes; case = heard_then p.case.0 q.case }

-- no turn yet, from zeros on
pub turned_begun : (n : ℕ) (reader room : List ℕ) → n ≡ 0 → reader ≡ replicate reader_bytes 0 → Turned More n reader room reader room
turned_begun n reader room e z =
    record { bytes = []; case = (heard_none reader room, (ap (λ (r : List ℕ). stage_number (stage_in r)) z ∙ ap stage_number zeros, omega arith)) }

-- as many turns as are left fewer
pub turned_on :
    (course : Course) (n m : ℕ) (reader room reader' room' reader'' room'' : List ℕ) → course ≡ More → m ≡ n + 1
    → Turned More n reader room reader' room' → Turned course 1 reader' room' reader'' room'' → Turned More m reader room reader'' room''
turned_on course n m reader room reader' room' reader'' room'' is e p q =
    rw e (turned_then More n 1 reader room reader' room' reader'' room'' p (rw is at q))

pub turned_least : (n m : ℕ) (reader room reader' room' : List ℕ) → m ≤ n → Turned More n reader room reader' room' → Turned More m reader room reader' room'
turned_least n m reader room reader' room' h p =
    record { bytes = p.bytes; case = (p.case.0, (p.case.1.0, omega (arith, p.case.1.1))) }

-- a turn that is not `More`
pub turned_stop :
    (course : Course) (n m : ℕ) (reader room reader' room' reader'' room'' : List ℕ) → (course ≡ More → ⊥)
    → Turned More n reader room reader' room' → Turned course 1 reader' room' reader'' room'' → Turned course m reader room reader'' room''
turned_stop More n m reader room reader' room' reader'' room'' h p q = absurd (h refl)
turned_stop Over n m reader room reader' room' reader'' room'' h p q =
    let t = turned_then Over n 1 reader room reader' room' reader'' room'' p q in
    record { bytes = t.bytes; case = t.case }
turned_stop Finished n m reader room reader' room' reader'' room'' h p q =
    let t = turned_then Finished n 1 reader room reader' room' reader'' room'' p q in
    record { bytes = t.bytes; case = t.case }
turned_stop Unread n m reader room reader' room' reader'' room'' h p q =
    let t = turned_then Unread n 1 reader room reader' room' reader'' room'' p q in
    record { bytes = t.bytes; case = t.case }
turned_stop Unwritten n m reader room reader' room' reader'' room'' h p q =
    let t = turned_then Unwritten n 1 reader room reader' room' reader'' room'' p q in
    record { bytes = t.bytes; case = t.case }

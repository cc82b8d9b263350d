-- STORE 20.4: every double is its field's whole number × 2^-k, said of the double's own 64 bits, over whole numbers alone. First of the structs
-- that are handed out, a line for each double, in the order of docs/FIELDS.md; then of the table of fields, name by name.
use Rattle.std.specs.Prelude.{ℕ, List, [], ◌∷◌, ◌≡◌, ℤ, pos, Float}
use Prim.Native.String.{String}
use Rattle.std.specs.Float.{binary64}
use Rattle.std.specs.Float.Ieee.{to_bits}
use Rattle.paper.specs.Field.{Field, Scale, plain, by}
use Rattle.paper.specs.Double.{Exactly}
use Rattle.orbit.specs.declared.Orbit.{Orbit}
use Rattle.orbit.specs.declared.TimingNumbers.{TimingNumbers}

-- the double x is z × 2^-k exactly
abbrev pub IsExact : Float → ℤ → ℕ → Type 0
IsExact x z k = Exactly (to_bits binary64 x) z k

-- each double of an orbit is the whole number of its name in the struct of its word, × 2^-k
pub record OrbitExact (o : Orbit) : Type 0 where
  pub m0 : IsExact o.scaled.m0 o.word1.m0 31
  pub e : IsExact o.scaled.e (pos o.word1.e) 33
  pub root_a : IsExact o.scaled.root_a (pos o.word1.root_a) 19
  pub omega0 : IsExact o.scaled.omega0 o.word2.omega0 31
  pub i0 : IsExact o.scaled.i0 o.word2.i0 31
  pub omega : IsExact o.scaled.omega o.word2.omega 31
  pub i_dot : IsExact o.scaled.i_dot o.word2.i_dot 43
  pub omega_dot : IsExact o.scaled.omega_dot o.word3.omega_dot 43
  pub delta_n : IsExact o.scaled.delta_n o.word3.delta_n 43
  pub cuc : IsExact o.scaled.cuc o.word3.cuc 29
  pub cus : IsExact o.scaled.cus o.word3.cus 29
  pub crc : IsExact o.scaled.crc o.word3.crc 5
  pub crs : IsExact o.scaled.crs o.word3.crs 5
  pub cic : IsExact o.scaled.cic o.word4.cic 29
  pub cis : IsExact o.scaled.cis o.word4.cis 29
  pub af0 : IsExact o.scaled.af0 o.word4.af0 34
  pub af1 : IsExact o.scaled.af1 o.word4.af1 46
  pub af2 : IsExact o.scaled.af2 o.word4.af2 59
  pub ai0 : IsExact o.scaled.ai0 (pos o.word5.ai0) 2
  pub ai1 : IsExact o.scaled.ai1 o.word5.ai1 8
  pub ai2 : IsExact o.scaled.ai2 o.word5.ai2 15
  pub bgd_e1_e5a : IsExact o.scaled.bgd_e1_e5a o.word5.bgd_e1_e5a 32
  pub bgd_e1_e5b : IsExact o.scaled.bgd_e1_e5b o.word5.bgd_e1_e5b 32

-- so of timing parameters
pub record TimingExact (t : TimingNumbers) : Type 0 where
  pub a0 : IsExact t.scaled.a0 t.word6.a0 30
  pub a1 : IsExact t.scaled.a1 t.word6.a1 50
  pub a0g : IsExact t.scaled.a0g t.word10.a0g 35
  pub a1g : IsExact t.scaled.a1g t.word10.a1g 51

-- a field that is scaled has the first of the doubles: it is under the field's name, and its bits are exactly z × 2^-k; the other fields have
-- those behind it. A field that is not scaled has none
abbrev pub OneExact : Scale → String → ℤ → List (String × Float) → (List (String × Float) → Type 0) → Type 0
OneExact plain name z doubles Others = Others doubles
OneExact (by k) name z [] Others = ⊥
OneExact (by k) name z (d ∷ ds) Others = (d.0 ≡ name) × Exactly (to_bits binary64 d.1) z k × Others ds

-- so for each of some fields with these numbers, and there are no doubles beside
abbrev pub EachExact : List Field → List (String × ℤ) → List (String × Float) → Type 0
EachExact [] numbers doubles = doubles ≡ []
EachExact (f ∷ fs) [] doubles = doubles ≡ []
EachExact (f ∷ fs) (x ∷ xs) doubles = OneExact f.scale f.name x.1 doubles (EachExact fs xs)

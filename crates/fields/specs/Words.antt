-- The numbers of a word as a struct: each of its fields is the number of that name; and back.
use Rattle.std.specs.Prelude.{ℕ, List, [], ◌∷◌, ℤ, pos, nat_abs}
use Prim.Native.String.{String}
use Rattle.paper.specs.Field.{named}
use Rattle.fields.specs.declared.Word1.{Word1}
use Rattle.fields.specs.declared.Word2.{Word2}
use Rattle.fields.specs.declared.Word3.{Word3}
use Rattle.fields.specs.declared.Word4.{Word4}
use Rattle.fields.specs.declared.Word5.{Word5}
use Rattle.fields.specs.declared.Word6.{Word6}
use Rattle.fields.specs.declared.Word10.{Word10}

-- a number, and one that has no sign
abbrev s : String → List (String × ℤ) → ℤ
s name l = named (pos 0) name l

abbrev u : String → List (String × ℤ) → ℕ
u name l = nat_abs (named (pos 0) name l)

unfoldable pub word1_from : List (String × ℤ) → Word1
word1_from l =
    record {
      iodnav = u "IODnav" l;
      t0e = u "t0e" l;
      m0 = s "M0" l;
      e = u "e" l;
      root_a = u "root A" l;
    }

unfoldable pub word1_numbers : Word1 → List (String × ℤ)
word1_numbers w =
    ("IODnav", pos w.iodnav)
    ∷ ("t0e", pos w.t0e)
    ∷ ("M0", w.m0)
    ∷ ("e", pos w.e)
    ∷ ("root A", pos w.root_a)
    ∷ []

unfoldable pub word2_from : List (String × ℤ) → Word2
word2_from l =
    record {
      iodnav = u "IODnav" l;
      omega0 = s "Omega0" l;
      i0 = s "i0" l;
      omega = s "omega" l;
      i_dot = s "i-dot" l;
    }

unfoldable pub word2_numbers : Word2 → List (String × ℤ)
word2_numbers w =
    ("IODnav", pos w.iodnav)
    ∷ ("Omega0", w.omega0)
    ∷ ("i0", w.i0)
    ∷ ("omega", w.omega)
    ∷ ("i-dot", w.i_dot)
    ∷ []

unfoldable pub word3_from : List (String × ℤ) → Word3
word3_from l =
    record {
      iodnav = u "IODnav" l;
      omega_dot = s "Omega-dot" l;
      delta_n = s "delta n" l;
      cuc = s "Cuc" l;
      cus = s "Cus" l;
      crc = s "Crc" l;
      crs = s "Crs" l;
      sisa = u "SISA" l;
    }

unfoldable pub word3_numbers : Word3 → List (String × ℤ)
word3_numbers w =
    ("IODnav", pos w.iodnav)
    ∷ ("Omega-dot", w.omega_dot)
    ∷ ("delta n", w.delta_n)
    ∷ ("Cuc", w.cuc)
    ∷ ("Cus", w.cus)
    ∷ ("Crc", w.crc)
    ∷ ("Crs", w.crs)
    ∷ ("SISA", pos w.sisa)
    ∷ []

unfoldable pub word4_from : List (String × ℤ) → Word4
word4_from l =
    record {
      iodnav = u "IODnav" l;
      svid = u "SVID" l;
      cic = s "Cic" l;
      cis = s "Cis" l;
      t0c = u "t0c" l;
      af0 = s "af0" l;
      af1 = s "af1" l;
      af2 = s "af2" l;
    }

unfoldable pub word4_numbers : Word4 → List (String × ℤ)
word4_numbers w =
    ("IODnav", pos w.iodnav)
    ∷ ("SVID", pos w.svid)
    ∷ ("Cic", w.cic)
    ∷ ("Cis", w.cis)
    ∷ ("t0c", pos w.t0c)
    ∷ ("af0", w.af0)
    ∷ ("af1", w.af1)
    ∷ ("af2", w.af2)
    ∷ []

unfoldable pub word5_from : List (String × ℤ) → Word5
word5_from l =
    record {
      ai0 = u "ai0" l;
      ai1 = s "ai1" l;
      ai2 = s "ai2" l;
      region1 = u "region 1" l;
      region2 = u "region 2" l;
      region3 = u "region 3" l;
      region4 = u "region 4" l;
      region5 = u "region 5" l;
      bgd_e1_e5a = s "BGD(E1,E5a)" l;
      bgd_e1_e5b = s "BGD(E1,E5b)" l;
      e5b_health = u "E5b health" l;
      e1b_health = u "E1-B health" l;
      e5b_validity = u "E5b validity" l;
      e1b_validity = u "E1-B validity" l;
    }

unfoldable pub word5_numbers : Word5 → List (String × ℤ)
word5_numbers w =
    ("ai0", pos w.ai0)
    ∷ ("ai1", w.ai1)
    ∷ ("ai2", w.ai2)
    ∷ ("region 1", pos w.region1)
    ∷ ("region 2", pos w.region2)
    ∷ ("region 3", pos w.region3)
    ∷ ("region 4", pos w.region4)
    ∷ ("region 5", pos w.region5)
    ∷ ("BGD(E1,E5a)", w.bgd_e1_e5a)
    ∷ ("BGD(E1,E5b)", w.bgd_e1_e5b)
    ∷ ("E5b health", pos w.e5b_health)
    ∷ ("E1-B health", pos w.e1b_health)
    ∷ ("E5b validity", pos w.e5b_validity)
    ∷ ("E1-B validity", pos w.e1b_validity)
    ∷ []

unfoldable pub word6_from : List (String × ℤ) → Word6
word6_from l =
    record {
      a0 = s "A0" l;
      a1 = s "A1" l;
      dt_ls = s "dtLS" l;
      t0t = u "t0t" l;
      wn0t = u "WN0t" l;
      wn_lsf = u "WNLSF" l;
      dn = u "DN" l;
      dt_lsf = s "dtLSF" l;
    }

unfoldable pub word6_numbers : Word6 → List (String × ℤ)
word6_numbers w =
    ("A0", w.a0)
    ∷ ("A1", w.a1)
    ∷ ("dtLS", w.dt_ls)
    ∷ ("t0t", pos w.t0t)
    ∷ ("WN0t", pos w.wn0t)
    ∷ ("WNLSF", pos w.wn_lsf)
    ∷ ("DN", pos w.dn)
    ∷ ("dtLSF", w.dt_lsf)
    ∷ []

unfoldable pub word10_from : List (String × ℤ) → Word10
word10_from l =
    record {
      a0g = s "A0G" l;
      a1g = s "A1G" l;
      t0g = u "t0G" l;
      wn0g = u "WN0G" l;
    }

unfoldable pub word10_numbers : Word10 → List (String × ℤ)
word10_numbers w =
    ("A0G", w.a0g)
    ∷ ("A1G", w.a1g)
    ∷ ("t0G", pos w.t0g)
    ∷ ("WN0G", pos w.wn0g)
    ∷ []

-- `scaled_of`: each double is that of the field of its name.
use borrow.Author.Rules.{rules}
use Rattle.paper.specs.Word.{table}
use Rattle.paper.specs.Field.{layouts, fields_in, fields_along, named}
use Rattle.paper.specs.Double.{doubles_of}
use Rattle.fields.specs.Words.{word1_numbers, word2_numbers, word3_numbers, word4_numbers, word5_numbers}
use Rattle.orbit.specs.Numbers.{scaled_from, scaled_of}
use Rattle.orbit.proofs.Told.{told}
use Rattle.orbit.proofs.scaled_of.Goals as goal

pub returns : goal.returns
unfolding scaled_of scaled_from word1_numbers word2_numbers word3_numbers word4_numbers word5_numbers doubles_of named fields_along table fields_in layouts
returns c =
    let a = c.args in
    λ i.
    record {
      m0 = told a.w1.m0 31 _ (search rules) c.of_signed.ensures i;
      e = c.of_unsigned.ensures i;
      root_a = c.of_unsigned-2.ensures i;
      omega0 = told a.w2.omega0 31 _ (search rules) c.of_signed-2.ensures i;
      i0 = told a.w2.i0 31 _ (search rules) c.of_signed-3.ensures i;
      omega = told a.w2.omega 31 _ (search rules) c.of_signed-4.ensures i;
      i_dot = told a.w2.i_dot 43 _ (search rules) c.of_signed-5.ensures i;
      omega_dot = told a.w3.omega_dot 43 _ (search rules) c.of_signed-6.ensures i;
      delta_n = told a.w3.delta_n 43 _ (search rules) c.of_signed-7.ensures i;
      cuc = told a.w3.cuc 29 _ (search rules) c.of_signed-8.ensures i;
      cus = told a.w3.cus 29 _ (search rules) c.of_signed-9.ensures i;
      crc = told a.w3.crc 5 _ (search rules) c.of_signed-10.ensures i;
      crs = told a.w3.crs 5 _ (search rules) c.of_signed-11.ensures i;
      cic = told a.w4.cic 29 _ (search rules) c.of_signed-12.ensures i;
      cis = told a.w4.cis 29 _ (search rules) c.of_signed-13.ensures i;
      af0 = told a.w4.af0 34 _ (search rules) c.of_signed-14.ensures i;
      af1 = told a.w4.af1 46 _ (search rules) c.of_signed-15.ensures i;
      af2 = told a.w4.af2 59 _ (search rules) c.of_signed-16.ensures i;
      ai0 = c.of_unsigned-3.ensures i;
      ai1 = told a.w5.ai1 8 _ (search rules) c.of_signed-17.ensures i;
      ai2 = told a.w5.ai2 15 _ (search rules) c.of_signed-18.ensures i;
      bgd_e1_e5a = told a.w5.bgd_e1_e5a 32 _ (search rules) c.of_signed-19.ensures i;
      bgd_e1_e5b = told a.w5.bgd_e1_e5b 32 _ (search rules) c.of_signed-20.ensures i;
    }

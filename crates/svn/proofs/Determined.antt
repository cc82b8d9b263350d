-- Each call's promise is tight: two answers that its contract permits are equal.
use mathlib.Core.Path.{◌≡◌, sym, ◌∙◌}
use borrow.Fn.Kinds.{res_t, ended_of, Dens}
use denote.Triple.Clauses.{AtExit}
use contract.Lifetimes.{Lfts}
use Rattle.svn.proofs.OneToOne.{satellite_one}
use Rattle.svn.proofs.Svn.is_satellite.Reads as is_satellite_reads
use Rattle.svn.proofs.Svn.is_satellite.Kinds as is_satellite_kinds
use Rattle.svn.proofs.Svn.letters.Reads as letters_reads
use Rattle.svn.proofs.Svn.letters.Kinds as letters_kinds
use Rattle.svn.proofs.SvnTryFromU8.try_from.Reads as try_from_reads
use Rattle.svn.proofs.SvnTryFromU8.try_from.Kinds as try_from_kinds

pub try_from_determined :
    (κs : Lfts 0)
    (a : Dens κs try_from_kinds.ps)
    (r r' : (res_t try_from_kinds.r κs).Denot)
    (e e' : AtExit (ended_of 0 try_from_kinds.ps try_from_kinds.r) κs)
    → try_from_reads.Post κs a r e → try_from_reads.Post κs a r' e' → r ≡ r'
try_from_determined κs a r r' e e' p q = satellite_one r r' (p ∙ sym q)

pub is_satellite_determined :
    (κs : Lfts 0)
    (a : Dens κs is_satellite_kinds.ps)
    (r r' : (res_t is_satellite_kinds.r κs).Denot)
    (e e' : AtExit (ended_of 0 is_satellite_kinds.ps is_satellite_kinds.r) κs)
    → is_satellite_reads.Post κs a r e → is_satellite_reads.Post κs a r' e' → r ≡ r'
is_satellite_determined κs a r r' e e' p q = p ∙ sym q

pub letters_determined :
    (κs : Lfts 0)
    (a : Dens κs letters_kinds.ps)
    (r r' : (res_t letters_kinds.r κs).Denot)
    (e e' : AtExit (ended_of 0 letters_kinds.ps letters_kinds.r) κs)
    → letters_reads.Post κs a r e → letters_reads.Post κs a r' e' → r ≡ r'
letters_determined κs a r r' e e' p q = p ∙ sym q

-- No call asks anything of its caller: what each asks holds of all arguments. Assumes nothing.
use borrow.Fn.Kinds.{Dens}
use contract.Lifetimes.{Lfts}
use Rattle.gst.proofs.Gst.new.Reads as new
use Rattle.gst.proofs.Gst.new.Kinds as new_kinds
use Rattle.gst.proofs.Gst.add_seconds.Reads as add-seconds
use Rattle.gst.proofs.Gst.add_seconds.Kinds as add_seconds_kinds
use Rattle.gst.proofs.Gst.add_subframes.Reads as add-subframes
use Rattle.gst.proofs.Gst.add_subframes.Kinds as add_subframes_kinds
use Rattle.gst.proofs.Gst.gst_subframe.Reads as gst_subframe
use Rattle.gst.proofs.Gst.gst_subframe.Kinds as gst_subframe_kinds
use Rattle.gst.proofs.Gst.is_subframe.Reads as is-subframe
use Rattle.gst.proofs.Gst.is_subframe.Kinds as is_subframe_kinds
use Rattle.gst.proofs.Gst.subframes_difference.Reads as subframes_difference
use Rattle.gst.proofs.Gst.subframes_difference.Kinds as subframes_difference_kinds
use Rattle.gst.proofs.ResultGstRefusalChained.add_seconds.Reads as chained_add_seconds
use Rattle.gst.proofs.ResultGstRefusalChained.add_seconds.Kinds as chained_add_seconds_kinds
use Rattle.gst.proofs.ResultGstRefusalChained.add_subframes.Reads as chained_add_subframes
use Rattle.gst.proofs.ResultGstRefusalChained.add_subframes.Kinds as chained_add_subframes_kinds
use Rattle.gst.proofs.ResultGstRefusalChained.gst_subframe.Reads as chained_gst_subframe
use Rattle.gst.proofs.ResultGstRefusalChained.gst_subframe.Kinds as chained_gst_subframe_kinds

pub new_asks_nothing : (κs : Lfts 0) (a : Dens κs new_kinds.ps) → new.Asked κs a
new_asks_nothing κs a = tt

pub add_seconds_asks_nothing : (κs : Lfts 0) (a : Dens κs add_seconds_kinds.ps) → add-seconds.Asked κs a
add_seconds_asks_nothing κs a = tt

pub add_subframes_asks_nothing : (κs : Lfts 0) (a : Dens κs add_subframes_kinds.ps) → add-subframes.Asked κs a
add_subframes_asks_nothing κs a = tt

pub gst_subframe_asks_nothing : (κs : Lfts 0) (a : Dens κs gst_subframe_kinds.ps) → gst_subframe.Asked κs a
gst_subframe_asks_nothing κs a = tt

pub is_subframe_asks_nothing : (κs : Lfts 0) (a : Dens κs is_subframe_kinds.ps) → is-subframe.Asked κs a
is_subframe_asks_nothing κs a = tt

pub subframes_difference_asks_nothing : (κs : Lfts 0) (a : Dens κs subframes_difference_kinds.ps) → subframes_difference.Asked κs a
subframes_difference_asks_nothing κs a = tt

pub chained_add_seconds_asks_nothing : (κs : Lfts 0) (a : Dens κs chained_add_seconds_kinds.ps) → chained_add_seconds.Asked κs a
chained_add_seconds_asks_nothing κs a = tt

pub chained_add_subframes_asks_nothing : (κs : Lfts 0) (a : Dens κs chained_add_subframes_kinds.ps) → chained_add_subframes.Asked κs a
chained_add_subframes_asks_nothing κs a = tt

pub chained_gst_subframe_asks_nothing : (κs : Lfts 0) (a : Dens κs chained_gst_subframe_kinds.ps) → chained_gst_subframe.Asked κs a
chained_gst_subframe_asks_nothing κs a = tt

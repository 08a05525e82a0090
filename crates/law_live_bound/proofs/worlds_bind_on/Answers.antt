-- the laws are proved over definitions alone

use Rattle.law_live_bound.proofs.Worlds.{binding_goes_both_ways, agreeing_worlds_bind, bound_worlds_agree, like_worlds_bind, carries_elsewhere_keep_binding, countings_keep_binding, hearings_keep_binding, offers_are_made, grants_are_started, heard_frames_keep_nodes_up, offers_keep_nodes_up, starts_keep_nodes_up}
use Rattle.law_live_bound.proofs.worlds_bind_on.Goals as goal

pub returns : goal.returns
returns c = record {
  both = binding_goes_both_ways;
  agreed = agreeing_worlds_bind;
  rest = bound_worlds_agree;
  alike = like_worlds_bind;
  elsewhere = carries_elsewhere_keep_binding;
  countings = countings_keep_binding;
  hearings = hearings_keep_binding;
  offers = offers_are_made;
  grants = grants_are_started;
  heard_up = heard_frames_keep_nodes_up;
  offers_up = offers_keep_nodes_up;
  starts_up = starts_keep_nodes_up;
}

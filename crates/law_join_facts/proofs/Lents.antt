-- The joins to the grants of one port: which changes of a grant keep them, and by which one comes or goes.

use Rattle.std.proofs.Common.{◌≡◌, ℕ, List, [], ◌∷◌, ◌++◌, map, Option, Some, None, refl, sym, ap, ◌∙◌}
use Rattle.std.specs.Prelude.{flat_map}
use Rattle.std.specs.List.{filter_map, cons_option}
use Rattle.std.specs.Option.{option_map}
use Rattle.std.proofs.lemmas.List.Elements.{filter_map-append}
use Rattle.net_types.specs.declared.channel.End.{End}
use Rattle.net_types.specs.declared.node.PortNo.{PortNo}
use Rattle.keyed_lists.specs.Keyed.{at, put, without}
use Rattle.port_model.specs.Grants.{Grant, GrantState, Idle, ByController, ByInput, Leaving, grant_label, lent_input}
use Rattle.port_model.specs.Resets.{left_in, left_of}
use Rattle.controller_joins.specs.world_model.Joins.{join_to}
use Rattle.controller_joins.specs.Joined.{joined_of}
use Rattle.controller_joins.specs.declared.places.Joined.{Joined}
use Rattle.law_join_facts.proofs.Comes.{OneMore}
use Rattle.law_join_facts.proofs.Splits.{AreApart, split}

-- a grant as a join, if it is lent
abbrev pub lent_as : PortNo → (label : ℕ) → Option End → Option Joined
lent_as port label input = option_map (λ (e : End). record { input = e; port = port; label = label }) input

module _ (port : PortNo) where
  abbrev pub lent : Grant → Option Joined
  lent grant = lent_as port grant.label (lent_input grant.state)

  abbrev pub lents : List Grant → List Joined
  lents grants = filter_map lent grants

  pub lents_are : (grants : List Grant) → map joined_of (filter_map (join_to port) grants) ≡ lents grants
  lents_are [] = refl
  lents_are (grant ∷ grants) = by (lent_input grant.state) (lents_are grants) where
    by : (o : Option End) → map joined_of (filter_map (join_to port) grants) ≡ lents grants
        → map joined_of (cons_option (option_map (λ (e : End). record { input = e; port = port; grant = grant }) o) (filter_map (join_to port) grants)) ≡ cons_option (lent_as port grant.label o) (lents grants)
    by None rest = rest
    by (Some e) rest = ap (λ js. record { input = e; port = port; label = grant.label } ∷ js) rest

  both : (front back : List Grant) (grant : Grant) → lents (front ++ grant ∷ back) ≡ lents front ++ cons_option (lent grant) (lents back)
  both front back grant = filter_map-append lent front (grant ∷ back)

  -- *Kept*
  pub kept : (after : Grant) (grants : List Grant) (grant : Grant) → at grant_label after.label grants ≡ Some grant → lent_input after.state ≡ lent_input grant.state → lents (put grant_label after grants) ≡ lents grants
  kept after grants grant found same =
      let s = split grant_label after.label grants grant found in
      ap lents (s.placed after refl) ∙ both s.front s.back after
      ∙ (λ i. lents s.front ++ cons_option (lent_as port (sym s.own i) (same i)) (lents s.back))
      ∙ sym (both s.front s.back grant) ∙ ap lents (sym s.whole)

  left_one : (grant : Grant) (state : GrantState) → grant.state ≡ state → (rest : List Grant) → lents (left_in grant state ++ rest) ≡ cons_option (lent grant) (lents rest)
  left_one grant Idle is rest = ap (λ (s : GrantState). cons_option (lent_as port grant.label (lent_input s)) (lents rest)) (sym is)
  left_one grant ByController is rest = ap (λ (s : GrantState). cons_option (lent_as port grant.label (lent_input s)) (lents rest)) (sym is)
  left_one grant (ByInput input) is rest = ap (λ (s : GrantState). cons_option (lent_as port grant.label (lent_input s)) (lents rest)) (sym is)
  left_one grant (Leaving input owed) is rest = ap (λ (s : GrantState). cons_option (lent_as port grant.label (lent_input s)) (lents rest)) (sym is)

  pub left_kept : (grants : List Grant) → lents (flat_map left_of grants) ≡ lents grants
  left_kept [] = refl
  left_kept (grant ∷ grants) = left_one grant grant.state refl (flat_map left_of grants) ∙ ap (cons_option (lent grant)) (left_kept grants)

  -- *One comes*
  pub lent_comes : (label : ℕ) (grants : List Grant) (grant : Grant) (input : End) → at grant_label label grants ≡ Some grant → lent_input grant.state ≡ None
      → OneMore (lents grants) (lents (put grant_label (record grant { state = ByInput input }) grants)) (record { input = input; port = port; label = grant.label })
  lent_comes label grants grant input found none =
      let s = split grant_label label grants grant found in
      record {
        front = lents s.front;
        back = lents s.back;
        fewer_is = ap lents s.whole ∙ both s.front s.back grant ∙ ap (λ o. lents s.front ++ cons_option (lent_as port grant.label o) (lents s.back)) none;
        more_is = ap lents (s.placed (record grant { state = ByInput input }) s.own) ∙ both s.front s.back (record grant { state = ByInput input });
      }

  -- *One goes*: its grant is another's, or none's
  pub lent_goes : (label : ℕ) (grants : List Grant) (grant : Grant) (input : End) (state : GrantState) → at grant_label label grants ≡ Some grant → lent_input grant.state ≡ Some input → lent_input state ≡ None
      → OneMore (lents (put grant_label (record grant { state = state }) grants)) (lents grants) (record { input = input; port = port; label = grant.label })
  lent_goes label grants grant input state found is none =
      let s = split grant_label label grants grant found in
      record {
        front = lents s.front;
        back = lents s.back;
        fewer_is = ap lents (s.placed (record grant { state = state }) s.own) ∙ both s.front s.back (record grant { state = state }) ∙ ap (λ o. lents s.front ++ cons_option (lent_as port grant.label o) (lents s.back)) none;
        more_is = ap lents s.whole ∙ both s.front s.back grant ∙ ap (λ o. lents s.front ++ cons_option (lent_as port grant.label o) (lents s.back)) is;
      }

  pub lent_ends : (label : ℕ) (grants : List Grant) (grant : Grant) (input : End) → AreApart grant_label grants → at grant_label label grants ≡ Some grant → lent_input grant.state ≡ Some input
      → OneMore (lents (without grant_label label grants)) (lents grants) (record { input = input; port = port; label = grant.label })
  lent_ends label grants grant input apart found is =
      let s = split grant_label label grants grant found in
      record {
        front = lents s.front;
        back = lents s.back;
        fewer_is = ap lents (s.gone apart) ∙ filter_map-append lent s.front s.back;
        more_is = ap lents s.whole ∙ both s.front s.back grant ∙ ap (λ o. lents s.front ++ cons_option (lent_as port grant.label o) (lents s.back)) is;
      }

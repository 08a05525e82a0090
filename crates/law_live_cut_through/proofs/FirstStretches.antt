-- what is sent in calm, as a stretch of a run in which no label is joined

use Rattle.std.proofs.Common.{◌≡◌, ℕ, true, List, [], ◌∷◌, ◌++◌, append_assoc, Option, None, Some, refl, sym, ◌∙◌, ap, subst}
use Rattle.std.specs.List.{list_all}
use Rattle.std.specs.Option.{option_map, option_map_or}
use Rattle.world_model.specs.Words.{Policy, End, Standing, FlowId, GrantState, ByInput, Controller, Topology, World, Site, is_empty, next, world_after, IsRun, IsTame, IsNode, past_of}
use Rattle.world_model.specs.World.{opened}
use Rattle.world_model.specs.network_model.declared.link.LinkEnd.{LinkEnd}
use Rattle.world_model.specs.network_model.declared.event.Event.{Event}
use Rattle.live_model.specs.Beats.{is_sending}
use Rattle.calm_model.specs.Served.{IsNewLink}
use Rattle.law_live_ease.specs.law_true_runs.Runs.{HoldsInRuns, IsWhole}
use Rattle.law_live_ease.specs.law_port_facts.ordered_lists.Ordered.{Every}
use Rattle.law_live_ease.specs.law_live_hearing.Law.{world_at}
use Rattle.law_live_ease.proofs.law_live_hearing.Going.{after_all}
use Rattle.law_live_ease.proofs.law_run_facts.Nodes.{runs_have_nodes}
use Rattle.law_live_ease.proofs.law_run_facts.Steps.{after_one, front_run}
use Rattle.law_live_ease.specs.law_live_journeys.Hops.{IsStretch, HopsAreHeard}
use Rattle.law_live_ease.specs.law_live_journeys.Journeys.{KeepsRoutes}
use Rattle.law_live_ease.specs.Law.{IsAtEase, Binds, IsCalmEvent}
use Rattle.law_live_ease.specs.Beats.{AreCalmEvents}
use Rattle.law_live_ease.specs.Binding.{IsCalmStretch, StretchesBindOn}
use Rattle.law_live_cut_through.specs.Law.{HoldsLabel, HoldsGrant, AddsBranch, AddBranchesAlone, BindsAlone}
use Rattle.law_live_cut_through.specs.Under.{EntersNothing}
use Rattle.law_live_cut_through.proofs.StretchesSent.{rest_sent}
use Rattle.law_live_cut_through.proofs.FirstGiven.{Given}
use Rattle.law_live_cut_through.proofs.FirstShown.{no_label, no_grant}

-- *What the way of a packet stands on*
pub record Laws : Type 0 where
  pub given : Given
  pub binds_on : StretchesBindOn
  pub hops : HopsAreHeard
  pub whole : HoldsInRuns IsWhole

-- *What is sent* in calm: a stretch of a network that binds and is at ease as it begins, in which no route changes
pub record IsSending (policy : Policy) (topology : Topology) (past events : List Event) : Type 0 where
  pub calm : IsCalmStretch policy topology past events
  pub stretch : IsStretch policy topology past events
  pub keeps : KeepsRoutes policy topology past events
  pub binds : Binds topology (world_at policy topology past)
  pub ease : IsAtEase topology (world_at policy topology past)

module _ (laws : Laws) (policy : Policy) (topology : Topology) (past events : List Event) (s : IsSending policy topology past events) where
  abbrev pub now : List Event → World
  now front = world_at policy topology (past ++ front)

  -- the world behind a front, reached in two ways
  pub now_is : (front : List Event) → now front ≡ world_after topology (world_at policy topology past) front
  now_is front = after_all topology (opened policy topology) past front

  pub later_is : (front more : List Event) → world_after topology (now front) more ≡ now (front ++ more)
  later_is front more = sym (after_all topology (opened policy topology) (past ++ front) more) ∙ ap (world_at policy topology) (append_assoc past front more)

  pub next_is : (front : List Event) (event : Event) → now (front ++ event ∷ []) ≡ next topology (now front) event
  next_is front event = ap (world_at policy topology) (sym (append_assoc past front (event ∷ []))) ∙ after_one topology (opened policy topology) (past ++ front) event

  pub calm_at : (front rest : List Event) (event : Event) → events ≡ front ++ event ∷ rest → IsCalmEvent topology (now front) event
  calm_at front rest event are = subst (λ (w : World). IsCalmEvent topology w event) (sym (now_is front)) (s.calm.calm front rest event are)

  pub enters_nothing : (front rest : List Event) (event : Event) → events ≡ front ++ event ∷ rest → EntersNothing topology (now front) event
  enters_nothing front rest event are = (calm_at front rest event are).entries

  -- nothing stands as it begins
  none_asked : AddBranchesAlone (world_at policy topology past)
  none_asked node site there =
      let inside : IsNode topology node = (runs_have_nodes policy topology past s.calm.addresses (front_run policy topology past events s.calm.run) node site there).is_node.number in
      let none : site.controller.desk.standing ≡ [] =
      subst (λ (o : Option Site). option_map_or (λ (c : Controller). c.desk.standing) (option_map (λ (x : Site). x.controller) o) [] ≡ []) there
      (s.ease.peace.lasting.nothing_stands node inside) in
      subst (Every (λ (standing : Standing). AddsBranch standing.request)) (sym none) tt

  -- *From a front of it on*
  module _ (front rest : List Event) (are : events ≡ front ++ rest) where
    pub split : past ++ events ≡ (past ++ front) ++ rest
    split = ap (λ (es : List Event). past ++ es) are ∙ sym (append_assoc past front rest)

    pub stretch_on : IsStretch policy topology (past ++ front) rest
    stretch_on = record {
      run = subst (IsRun policy topology) split s.stretch.run;
      addresses = s.stretch.addresses;
      tame = subst (λ (es : List Event). IsTame (past_of policy topology es).records) split s.stretch.tame;
      empties = subst (λ (es : List Event). is_empty (world_at policy topology es) ≡ true) split s.stretch.empties;
    }

    each_calm : AreCalmEvents topology (now front) rest
    each_calm first later event e = subst (λ (w : World). IsCalmEvent topology w event) (sym (later_is front first))
        (calm_at (front ++ first) later event (are ∙ (ap (λ (es : List Event). front ++ es) e ∙ sym (append_assoc front first (event ∷ later)))))

    calm_on : IsCalmStretch policy topology (past ++ front) rest
    calm_on = record {
      run = stretch_on.run;
      addresses = s.calm.addresses;
      tame = stretch_on.tame;
      sends = rest_sent front rest (ap (list_all is_sending) (sym are) ∙ s.calm.sends);
      calm = each_calm;
    }

    pub binds_at : Binds topology (now front)
    binds_at = subst (Binds topology) (sym (now_is front)) (laws.binds_on policy topology past events s.calm s.binds front rest are)

    pub alone_at : BindsAlone topology (now front)
    alone_at = record {
      binds = binds_at;
      alone = subst AddBranchesAlone (sym (now_is front)) (laws.given.add_branches policy topology past events s.calm s.binds none_asked front rest are);
    }

    -- *No label is joined* of a flow that was new on a link as it began, and no grant is lent
    module _ (one far : LinkEnd) (flow : FlowId) (new : IsNewLink (world_at policy topology past) one far flow) where
      pub unjoined : (number : ℕ) (join : Option End) → HoldsLabel (now front) far number flow join → join ≡ None
      unjoined number None h = refl
      unjoined number (Some output) h = absurd (no_label (world_at policy topology past) one far flow new number (Some output)
          (laws.given.join_none policy topology past events s.calm s.binds front rest are far number flow output
          (subst (λ (w : World). HoldsLabel w far number flow (Some output)) (now_is front) h)))

      pub unlent : (number : ℕ) (input : End) → HoldsGrant (now front) one number flow (ByInput input) → ⊥
      unlent number input h = no_grant (world_at policy topology past) one far flow new number input
          (laws.given.lend_none policy topology past events s.calm s.binds front rest are one number flow input
          (subst (λ (w : World). HoldsGrant w one number flow (ByInput input)) (now_is front) h))

    -- *What is held stays*
    pub label_stays : (more after : List Event) → rest ≡ more ++ after → (end : LinkEnd) (number : ℕ) (flow : FlowId) (join : Option End)
        → HoldsLabel (now front) end number flow join → HoldsLabel (now (front ++ more)) end number flow join
    label_stays more after e end number flow join h = subst (λ (w : World). HoldsLabel w end number flow join) (later_is front more)
        (laws.given.keep_labels policy topology (past ++ front) rest calm_on binds_at more after e end number flow join h)

    pub grant_stays : (more after : List Event) → rest ≡ more ++ after → (end : LinkEnd) (number : ℕ) (flow : FlowId) (state : GrantState)
        → HoldsGrant (now front) end number flow state → HoldsGrant (now (front ++ more)) end number flow state
    grant_stays more after e end number flow state h = subst (λ (w : World). HoldsGrant w end number flow state) (later_is front more)
        (laws.given.keep_grants policy topology (past ++ front) rest calm_on binds_at more after e end number flow state h)

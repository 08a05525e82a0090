-- the law of a label's line, read off the network that shows it

use Rattle.std.proofs.Common.{◌≡◌, ◌≢◌, ℕ, ◌<◌, Bool, true, false, zero, suc, List, [], ◌∷◌, ◌++◌, Option, None, Some, refl, sym, ◌∙◌, ap, subst, arith, if◌then◌else◌, filter}
use Rattle.std.specs.Prelude.{Contains, nat_lt, nat_le, ◌&&◌}
use Rattle.std.proofs.Common.{inl, inr}
use Rattle.std.specs.Option.{option_map_or}
use Rattle.std.proofs.lemmas.List.Elements.{Contains-append_cases, Contains-append_left, Contains-append_right}
use Rattle.law_causes.specs.world_model.Words.{Channel, End, Down, Up, Out, is_label_channel, label_channel_of, Cell, FlowId, at, Standing, label_end, control_end, Label, LabelState, Wiring, Offered, Recalled, Wired, Grant, GrantState, Idle, ByController, ByInput, Leaving, grant_label, Session, Linked, default_channel, default_home, same_channel, World, queue_at, session_at, grants_at, chain_at, to_switch, requests_chain_at, on_channel, on_default_channel, copy_under, ifmp_under, Instance, Redirect, Past, User, Uses, leads, on_the_link, off_the_link, granted, connected, copied, from_controller, IsUnused, IsSpareOrWired, held}
use Rattle.law_world_views.specs.ordered_lists.Ordered.{Every}
use Rattle.law_label_line.specs.Cells.{Role, Downstream, Upstream}
use Rattle.law_label_line.specs.Line as line_specs
use Rattle.law_label_line.specs.Line.{Line}
use Rattle.law_label_line.specs.Law as laws
use Rattle.law_label_line.specs.Law.{Always, SpareIsUnused, HasNoUser, IsNoUser}
use Rattle.law_causes.specs.world_model.Users.{request_stands, redirect_comes}
use Rattle.law_causes.specs.world_model.Owned as owned
use Rattle.law_world_views.specs.law_port_views.Flows.{flow_number}
use Rattle.std.proofs.lemmas.Bool.Decides.{nat_tests}
use Rattle.law_world_views.proofs.law_port_facts.Keyed.{by_eq, on_each}
use Rattle.std.specs.Prelude.{◌==◌}
use Rattle.law_world_views.proofs.law_shown_cells.Frames.{differ}
use Rattle.law_world_views.specs.law_port_views.Link.{LinkLabel}
use Rattle.law_world_views.specs.law_port_views.Shown.{label_of, IsLent, GrantShows}
use Rattle.law_world_views.specs.law_port_views.Shown as shown_specs
use Rattle.law_world_views.specs.law_shown_cells.Label.{OnLink, OnControl, channel_at}
use Rattle.law_world_views.specs.law_controller_views.Lifted.{IsProper}
use Rattle.law_world_views.specs.Shown.{end_of, way_of, WorldShows}
use Rattle.law_world_views.specs.Pairs.{by_branch, by_desk, by_copy, IsLike}
use Rattle.law_world_views.specs.Between.{IsWorld, IsLinkLabel, HasLabelLine}
use Rattle.law_world_views.proofs.law_shown_cells.Frames.{same_self}
use Rattle.law_unused_labels.specs.Unused.{HasOwnChannels}
use Rattle.law_unused_labels.proofs.Seen.{every_contained, IsQuiet, no_labelled, no_redirect}
use Rattle.law_unused_labels.proofs.Places.{linked_is, label_is, is_open, on_out, on_up, on_down, in_chain}

-- *A list on a channel*
filtered_more : (f : Cell → Bool) (y : Cell) (ys zs : List Cell) → Every (λ (x : Cell). Contains ys x × (f x ≡ true)) zs → Every (λ (x : Cell). Contains (y ∷ ys) x × (f x ≡ true)) zs
filtered_more f y ys [] all = tt
filtered_more f y ys (z ∷ zs) all = (((suc all.0.0.0, omega (arith, all.0.0.1), all.0.0.2), all.0.1), filtered_more f y ys zs all.1)

filtered_one : (f : Cell → Bool) (y : Cell) (ys : List Cell) → Every (λ (x : Cell). Contains (y ∷ ys) x × (f x ≡ true)) (filter f ys) → (b : Bool) → f y ≡ b → Every (λ (x : Cell). Contains (y ∷ ys) x × (f x ≡ true)) (if b then y ∷ filter f ys else filter f ys)
filtered_one f y ys all true e = (((zero, omega arith, refl), e), all)
filtered_one f y ys all false e = all

filtered_all : (f : Cell → Bool) (ys : List Cell) → Every (λ (x : Cell). Contains ys x × (f x ≡ true)) (filter f ys)
filtered_all f [] = tt
filtered_all f (y ∷ ys) = filtered_one f y ys (filtered_more f y ys (filter f ys) (filtered_all f ys)) (f y) refl

pub filtered : (f : Cell → Bool) (xs : List Cell) (c : Cell) → Contains (filter f xs) c → Contains xs c × (f c ≡ true)
filtered f xs c has = every_contained (λ (x : Cell). Contains xs x × (f x ≡ true)) (filter f xs) c (filtered_all f xs) has

pub filtered_back : (f : Cell → Bool) (xs : List Cell) (c : Cell) → Contains xs c → f c ≡ true → Contains (filter f xs) c
filtered_back f [] c has e = absurd (omega (arith, has.1))
filtered_back f (x ∷ xs) c (zero, less, is) e = subst (λ (b : Bool). Contains (if b then x ∷ filter f xs else filter f xs) c) (sym (ap f is ∙ e)) (zero, omega arith, is)
filtered_back f (x ∷ xs) c (suc k, less, is) e = by (f x) (filtered_back f xs c (k, omega (arith, less), is) e)
  where
    by : (b : Bool) → Contains (filter f xs) c → Contains (if b then x ∷ filter f xs else filter f xs) c
    by true has = (suc has.0, omega (arith, has.1), has.2)
    by false has = has

some_is : {X : Type 0} (x y : X) → Some x ≡ Some y → x ≡ y
some_is x y e = cc

none_at : (label : ℕ) (gs : List Grant) (grant : Grant) → at grant_label label gs ≡ None → Contains gs grant → grant.label ≡ label → ⊥
none_at label [] grant e has is = omega (arith, has.1)
none_at label (g ∷ gs) grant e (zero, less, same) is = by_eq g.label label (λ s t. absurd (cc (sym (ap (λ (b : Bool). if b then Some g else at grant_label label gs) t) ∙ e))) (λ d t. d (ap (λ (x : Grant). x.label) same ∙ is))
none_at label (g ∷ gs) grant e (suc k, less, same) is = none_at label gs grant (on_each (λ (o : Option Grant). o ≡ None → at grant_label label gs ≡ None) (g.label == label) (Some g) (at grant_label label gs) (λ t f. absurd (cc f)) (λ t f. f) e) (k, omega (arith, less), same) is

pub above_32 : (c : Channel) → is_label_channel c ≡ true → c.vci ≢ 15
above_32 c t e = by c.vpi c.vci t e
  where
    by : (p v : ℕ) → (nat_lt p 16 && (nat_le 32 v && nat_lt v 1024)) ≡ true → v ≡ 15 → ⊥
    by p v t e = grind (arith, nat_tests, t, e)

module _ (law : Always SpareIsUnused) (past : Past) (is : IsWorld past) (link : LinkLabel) (of : IsLinkLabel past.topology link) (proper : IsProper link)
    (session : Session) (opened : session_at past.now (end_of Downstream link) ≡ Some session) (spare : IsSpareOrWired (held session link.label)) where
  abbrev pub w : World
  w = past.now

  abbrev pub h : HasLabelLine past link
  h = is.labels link of

  abbrev pub line : Line
  line = h.line

  abbrev pub s : WorldShows link (IsLike w link) w line
  s = h.shows

  none : HasNoUser line
  none = subst SpareIsUnused h.reached.is (law h.reached.downstream h.reached.upstream h.reached.fresh h.reached.downstream_drawn h.reached.upstream_drawn h.reached.moves) (is_open past link h session opened)
      (subst laws.IsSpareOrWired (sym (label_is past link h session opened)) (spare_line (held session link.label) spare))
    where
      spare_in : (flow : ℕ) (state : LabelState) → owned.IsWired state → laws.IsSpareOrWired (shown_specs.label_in flow state)
      spare_in flow Wiring h = tt
      spare_in flow Offered h = h
      spare_in flow (Recalled last acknowledged) h = h
      spare_in flow Wired h = tt

      spare_line : (o : Option Label) → IsSpareOrWired o → laws.IsSpareOrWired (label_of o)
      spare_line None h = tt
      spare_line (Some label) h = spare_in (flow_number label.flow) label.state h

  -- *Users*
  pub no_grant : (grant : Grant) → Contains (grants_at w (end_of Upstream link)) grant → grant.label ≡ link.label → ⊥
  no_grant grant has same = by (at grant_label link.label (s.net.end Upstream).linked.port.grants) refl (s.net.end Upstream).shown.grant
    where
      some_grant : (g : Grant) → shown_specs.granted g ≡ line_specs.NoGrant → ⊥
      some_grant g e = state g.state e
        where
          state : (x : GrantState) → shown_specs.grant_in (flow_number g.flow) x ≡ line_specs.NoGrant → ⊥
          state Idle e = cc e
          state ByController e = cc e
          state (ByInput input) e = cc e
          state (Leaving input owed) e = cc e

      by : (o : Option Grant) → at grant_label link.label (s.net.end Upstream).linked.port.grants ≡ o → GrantShows line.upstream.state o line.grant → ⊥
      by None e shows = none_at link.label (s.net.end Upstream).linked.port.grants grant e
          (subst (λ (o : Option Linked). Contains (option_map_or (λ linked. linked.port.grants) o []) grant) (linked_is past link h Upstream) has) same
      by (Some g) e shows = some_grant g (sym shows ∙ none.no_grant)

  no_like : IsLike w link → ⊥
  no_like like = subst IsLent none.no_grant ((s.net.end Upstream).shown.lent like)

  no_copy : HasOwnChannels past.now (way_of link) link.label → (input : End) (x : Standing) (cell : Cell) → 0 < input.port.0 → Contains (to_switch w (link.node Upstream)) cell → copy_under w.notes.frames cell.mark ≡ Some x
      → leads x.request ≡ Some (input, label_end (link.port Upstream) link.label) → ⊥
  no_copy own input x cell above has copy leads_to = no_like (record {
    input = input;
    above = above;
    pair = by_copy x cell (elim (Contains-append_cases (requests_chain_at w (link.node Upstream)) (queue_at w (Down (link.node Upstream))) cell has) [
      | inl chained ↦ Contains-append_left (requests_chain_at w (link.node Upstream)) (on_channel default_channel (queue_at w (Down (link.node Upstream)))) cell chained
      | inr waits ↦ Contains-append_right (requests_chain_at w (link.node Upstream)) (on_channel default_channel (queue_at w (Down (link.node Upstream)))) cell
          (filtered_back (λ c. same_channel c.header.channel default_channel) (queue_at w (Down (link.node Upstream))) cell waits (own.copies cell x waits copy))
    ]) copy leads_to;
  })

  abbrev rest_2 : List Cell
  rest_2 = on_channel (default_home (link.port Downstream)).channel (queue_at w (Down (link.node Downstream)))

  abbrev rest_1 : List Cell
  rest_1 = on_channel default_channel (queue_at w (Out (link.node Downstream) (link.port Downstream))) ++ rest_2

  abbrev rest_0 : List Cell
  rest_0 = on_channel (default_home (link.port Upstream)).channel (queue_at w (Up (link.node Upstream))) ++ rest_1

  pub no_redirected : (cell : Cell) (sender peer : Instance) (number lifetime : ℕ) (flow : FlowId) → ifmp_under w.notes.frames cell.mark ≡ Some (Redirect sender peer number lifetime (label_channel_of link.label) flow) → Contains (on_default_channel w (end_of Downstream link) (end_of Upstream link)) cell → ⊥
  no_redirected cell sender peer number lifetime flow message has = elim (Contains-append_cases (chain_at w (end_of Upstream link)) rest_0 cell has) [
    | inl chained ↦ no_redirect (OnControl (link.port Upstream)) link w.notes.frames proper.label cell sender peer number lifetime flow
        (is.numbers.taken (end_of Upstream link) cell chained).0 message (in_chain past link h IsNoUser none.none_sent Upstream cell chained)
    | inr more ↦ elim (Contains-append_cases (on_channel (default_home (link.port Upstream)).channel (queue_at w (Up (link.node Upstream)))) rest_1 cell more) [
      | inl up ↦ (let f : _ = filtered (λ c. same_channel c.header.channel (default_home (link.port Upstream)).channel) (queue_at w (Up (link.node Upstream))) cell up in
          no_redirect (OnControl (link.port Upstream)) link w.notes.frames proper.label cell sender peer number lifetime flow f.1 message (on_up past link h IsNoUser none.none_sent Upstream cell f.0))
      | inr more ↦ elim (Contains-append_cases (on_channel default_channel (queue_at w (Out (link.node Downstream) (link.port Downstream)))) rest_2 cell more) [
        | inl out ↦ (let f : _ = filtered (λ c. same_channel c.header.channel default_channel) (queue_at w (Out (link.node Downstream) (link.port Downstream))) cell out in
            no_redirect OnLink link w.notes.frames proper.label cell sender peer number lifetime flow f.1 message (on_out past link h IsNoUser none.none_sent Downstream cell f.0))
        | inr down ↦ (let f : _ = filtered (λ c. same_channel c.header.channel (default_home (link.port Downstream)).channel) (queue_at w (Down (link.node Downstream))) cell down in
            no_redirect (OnControl (link.port Downstream)) link w.notes.frames proper.label cell sender peer number lifetime flow f.1 message (on_down past link h IsNoUser none.none_sent Downstream cell f.0))
      ]
    ]
  ]

  -- a label's channel is no default one
  label_vci : (label_channel_of link.label).vci ≢ 15
  label_vci e = above_32 (label_channel_of link.label) proper.label e

  apart_default : same_channel (label_channel_of link.label) default_channel ≡ false
  apart_default = differ (label_channel_of link.label) default_channel (λ e. label_vci (ap (λ (x : Channel). x.vci) e))

  apart_home : (role : Role) → same_channel (control_end (link.port role) link.label).channel (channel_at (OnControl (link.port role)) default_channel) ≡ false
  apart_home role = differ (control_end (link.port role) link.label).channel (channel_at (OnControl (link.port role)) default_channel) (λ e. label_vci (ap (λ (x : Channel). x.vci) e))

  pub unused : HasOwnChannels past.now (way_of link) link.label → IsUnused w (way_of link) link.label
  unused own user uses = by user uses
    where
      labelled_out : (cell : Cell) → Contains (queue_at w (Out (link.node Upstream) (link.port Upstream))) cell → cell.header.channel ≡ label_channel_of link.label → ⊥
      labelled_out cell has channel = no_labelled OnLink link w.notes.frames proper.label cell
          (ap (λ (x : Channel). same_channel x default_channel) channel ∙ apart_default) (ap (λ (x : Channel). same_channel x (label_channel_of link.label)) channel ∙ same_self (label_channel_of link.label)) (on_out past link h IsNoUser none.none_sent Upstream cell has)

      labelled_on : (role : Role) (cell : Cell) → cell.header.channel ≡ (control_end (link.port role) link.label).channel → IsQuiet IsNoUser (OnControl (link.port role)) Upstream link w.notes.frames cell → ⊥
      labelled_on role cell channel q = no_labelled (OnControl (link.port role)) link w.notes.frames proper.label cell
          (ap (λ (x : Channel). same_channel x (channel_at (OnControl (link.port role)) default_channel)) channel ∙ apart_home role)
          (ap (λ (x : Channel). same_channel x (channel_at (OnControl (link.port role)) (label_channel_of link.label))) channel ∙ same_self (channel_at (OnControl (link.port role)) (label_channel_of link.label))) q

      by : (user : User) → Uses w (way_of link) link.label user → ⊥
      by _ (on_the_link cell has channel) = labelled_out cell has channel
      by _ (off_the_link cell has channel) = labelled_on Downstream cell channel (on_up past link h IsNoUser none.none_sent Downstream cell has)
      by _ (granted grant has same) = no_grant grant has same
      by _ (connected input above leads_to) = no_like (record { input = input; above = above; pair = by_branch leads_to })
      by _ (request_stands input x above has leads_to) = no_like (record { input = input; above = above; pair = by_desk x has leads_to })
      by _ (copied input x cell above has copy leads_to) = no_copy own input x cell above has copy leads_to
      by _ (redirect_comes flow cell has redirect) = no_redirected cell redirect.sender redirect.peer redirect.number redirect.lifetime flow redirect.message (own.redirects cell flow has redirect)
      by _ (from_controller cell has channel) = labelled_on Upstream cell channel (on_down past link h IsNoUser none.none_sent Upstream cell has)

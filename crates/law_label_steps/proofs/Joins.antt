-- *Joins* at a port: a grant that is lent or given back, and what a port whose numbers are spent does

use Rattle.std.proofs.Common.{◌≡◌, ◌≢◌, ℕ, ◌≤◌, Bool, true, false, List, Option, None, Some, refl, sym, ◌∙◌, ap, subst, arith, if◌then◌else◌}
use Rattle.std.specs.Prelude.{◌+◌, nat_lt, nat_le}
use Rattle.std.proofs.lemmas.Bool.Decides.{nat_tests}
use Rattle.law_port_views.specs.port_model.Words.{Instance, End, label_channel_of, is_label_number, Estab, at, put, without, Label, Grant, GrantState, Idle, ByController, ByInput, Leaving, grant_label, Session, Work, with_grant, without_grant, label_at, Unnumbered, last_number, spent_number, own_instance, tells_in, tells, halts_if_spent, reclaim_ack, joins_label, parted, lent, given_back_in, given_back}
use Rattle.law_port_views.proofs.law_port_facts.Keyed.{on_each, by_eq}
use Rattle.law_port_views.specs.law_label_line.Cells as lines
use Rattle.law_port_views.specs.law_label_line.Cells.{Role, Downstream, Upstream, Cell, frame}
use Rattle.law_port_views.specs.law_label_line.Line as states
use Rattle.law_port_views.specs.law_label_line.Line.{Line}
use Rattle.law_port_views.specs.law_label_line.Downstream.{sends_numbered}
use Rattle.law_port_views.specs.law_label_line.Upstream as up
use Rattle.law_port_views.specs.law_label_line.Moves.{SendOther, Lend, Release}
use Rattle.law_port_views.specs.port_model.declared.action.Action.TheVariants.{Say}
use Rattle.law_port_views.specs.port_model.Port.{with_action}
use Rattle.law_port_views.specs.port_model.Saying.{peer_instance, with_number}
use Rattle.law_port_views.specs.port_model.Joins.{joined, ended}
use Rattle.law_port_views.specs.Link.{LinkLabel}
use Rattle.law_port_views.specs.Flows.{flow_number}
use Rattle.law_port_views.specs.Heard.{heard_by, IsSaid}
use Rattle.law_port_views.specs.Shown.{number_of, granted, IsLent, Shown}
use Rattle.law_port_views.specs.Reaching.{Reaches, Leads}
use Rattle.law_port_views.proofs.Reach.{stays, by_move, begins_by, aside, leads_self, leads_on}
use Rattle.law_port_views.proofs.Queues.{sends}
use Rattle.law_port_views.proofs.Says.{closes_shown}
use Rattle.law_port_views.proofs.Live.{idle_grants, idle_tells}
use Rattle.law_port_views.proofs.Tells.{estab_down, estab_up, own_down, peer_down, sends_other_down, tells_down, tells_up, tells_unheard}
use Rattle.law_port_views.proofs.Grants.{own_grant, other_grant, own_ended, other_ended}
use Rattle.law_port_views.proofs.Taken.{own_up, peer_up}
use Rattle.law_port_views.proofs.Granting.{some_shown}
use Rattle.law_port_views.proofs.Ticking.{regrants}
use Rattle.law_port_views.proofs.Recalling.{room_grants, names_own, names_other}
use Rattle.law_label_steps.specs.Follows.{IsUnspent}
use Rattle.law_label_steps.proofs.Follow.{leads_live, unspent_label}
use Rattle.law_label_steps.proofs.Quiet.{alike_stays}

-- what the line shows of a grant in this state
granted_as : (grant : Grant) (state : GrantState) → grant.state ≡ state → granted grant ≡ granted (record grant { state = state })
granted_as grant state is = ap (λ (z : GrantState). granted (record grant { state = z })) is

module _ (link : LinkLabel) (like : Type 0) (queued : List Cell) where
  -- *The grant's port* has lent it, so from then on an input may be joined to the label
  pub more_joined : (More : Type 0) (w : Work) (line : Line) → IsLent line.grant → Shown Upstream link like queued w line → Shown Upstream link More queued w line
  more_joined More w line lent h = record {
    side = h.side;
    session = h.session;
    grant = h.grant;
    once = h.once;
    lent = λ l. lent;
    expected = h.expected;
    drawn = h.drawn;
    own = h.own;
    sent = h.sent;
  }

  pub lent_more : (More : Type 0) (w : Work) (grant : Grant) (input : End) → w.halted ≡ false → at grant_label grant.label w.port.grants ≡ Some grant
      → grant.state ≡ ByController → grant.label ≡ link.label → (line : Line) → Shown Upstream link like queued w line
      → Reaches Upstream link More queued (lent w grant input) line
  lent_more More w grant input live found is same line h =
      let here : at grant_label link.label w.port.grants ≡ Some grant = subst (λ (j : ℕ). at grant_label j w.port.grants ≡ Some grant) same found in
      let after : Line = record line { grant = states.ByInput (flow_number grant.flow) } in
      by_move Upstream link More queued (lent w grant input) line after Lend
      (ap (up.lent line) (some_shown link like queued w line grant here h ∙ granted_as grant ByController is))
      (more_joined More (lent w grant input) after tt
      (own_grant link like queued w grant (record grant { state = ByInput input }) line (states.ByInput (flow_number grant.flow)) live here same refl (λ l. tt) h)) refl

  -- *A message that isn't of the label* is told, also where the numbers are spent already
  spent_is : (n : ℕ) → n ≤ spent_number → nat_le n last_number ≡ false → spent_number ≡ n
  spent_is n most e = grind (arith, nat_tests)

  not_left : (n : ℕ) → nat_le n last_number ≡ false → nat_lt n last_number ≡ false
  not_left n e = grind (arith, nat_tests)

  room_in : (n : ℕ) → nat_le n last_number ≡ true → n ≤ last_number
  room_in n e = grind (arith, nat_tests)

  abbrev IsOther : Unnumbered → Type 0
  IsOther message = (own peer : Instance) (n : ℕ) → heard_by Downstream link.label (message own peer n) ≡ Some (lines.Other own.0 peer.0 n)

  tells_in_session : (w : Work) (message : Unnumbered) (s : Session) (line : Line) → w.halted ≡ false → w.port.session ≡ Some s → s.number ≤ last_number → IsOther message
      → IsSaid (link.address Upstream) message → Shown Downstream link like queued w line → Reaches Downstream link like queued (tells w message) line
  tells_in_session w message s line live opened room other said_so h =
      let estab : line.downstream.state ≡ Estab = estab_down link like queued w s line opened h in
      let said : lines.Message = lines.Other line.downstream.own line.downstream.stored line.number in
      let number : s.number ≡ line.number = sym (h.number ∙ ap number_of opened) in
      begins_by Downstream link like queued (tells w message) line (sends_numbered line said) line SendOther (sends_other_down link like queued line estab)
      (tells_down link like queued w s message said line live opened room
      (other (own_instance w.port.adjacency) (peer_instance w.port.adjacency) s.number
      ∙ (λ i. Some (lines.Other (own_down link like queued w line h i).0 (peer_down link like queued w line estab h i).0 (number i)))) said_so h)

  same_number : (x y : Session) → ◌≡◌ {A = Option Session} (Some x) (Some y) → y.number ≡ x.number
  same_number x y g = cc

  tells_spent : (w : Work) (message : Unnumbered) (s : Session) (line : Line) → w.port.session ≡ Some s → nat_le s.number last_number ≡ false
      → Shown Downstream link like queued w line → Shown Downstream link like queued (tells_in w message (Some s)) line
  tells_spent w message s line opened f h =
      let number : line.number ≡ s.number = h.number ∙ ap number_of opened in
      on_each (λ (v : Work). Shown Downstream link like queued v line) (nat_lt s.number last_number)
      (with_action (with_number (s.number + 1) w) (Say (message (own_instance w.port.adjacency) (peer_instance w.port.adjacency) s.number))) (with_number spent_number w)
      (λ t. absurd (cc (sym t ∙ not_left s.number f)))
      (λ t. alike_stays link like queued Downstream w (λ session. record session { number = spent_number }) line (λ z g. record {
        labels = refl;
        number = spent_is s.number (subst (λ (k : ℕ). k ≤ spent_number) number h.unspent) f ∙ same_number z s (sym g ∙ opened);
        known = refl;
        expected = refl;
      }) h)

  tells_other : (w : Work) (message : Unnumbered) → IsOther message → IsSaid (link.address Upstream) message → Leads Downstream link like queued w (tells w message)
  tells_other w message other said = leads_live Downstream link like queued w (tells w message) (idle_tells w message) (λ live line h. told live line h w.port.session refl)
    where
      told : w.halted ≡ false → (line : Line) → Shown Downstream link like queued w line → (o : Option Session) → w.port.session ≡ o
          → Reaches Downstream link like queued (tells w message) line
      told live line h None opened = stays Downstream link like queued (tells w message) line
          (subst (λ (o : Option Session). Shown Downstream link like queued (tells_in w message o) line) (sym opened) h)
      told live line h (Some s) opened = either (nat_le s.number last_number) refl
        where
          either : (b : Bool) → nat_le s.number last_number ≡ b → Reaches Downstream link like queued (tells w message) line
          either true t = tells_in_session w message s line live opened (room_in s.number t) other said h
          either false f = stays Downstream link like queued (tells w message) line
              (subst (λ (o : Option Session). Shown Downstream link like queued (tells_in w message o) line) (sym opened) (tells_spent w message s line opened f h))

  -- at the end that may send under the label the line releases its grant: it is the controller's again, or it ends
  returns : (w : Work) (grant : Grant) (input : End) → at grant_label grant.label w.port.grants ≡ Some grant → grant.state ≡ ByInput input
      → (grant.label ≡ link.label → like → ⊥) → Leads Upstream link like queued w (with_grant w (record grant { state = ByController }))
  returns w grant input found is unlike =
      let after : Grant = record grant { state = ByController } in
      leads_live Upstream link like queued w (with_grant w after) (idle_grants w (put grant_label after w.port.grants))
      (λ live line h. by_eq grant.label link.label
      (λ same t. (let here : at grant_label link.label w.port.grants ≡ Some grant = subst (λ (j : ℕ). at grant_label j w.port.grants ≡ Some grant) same found in
      by_move Upstream link like queued (with_grant w after) line (record line { grant = states.ByController (flow_number grant.flow) }) Release
      (ap (up.released line) (some_shown link like queued w line grant here h ∙ granted_as grant (ByInput input) is))
      (own_grant link like queued w grant after line (states.ByController (flow_number grant.flow)) live here same refl (λ l. absurd (unlike same l)) h) refl))
      (λ other t. stays Upstream link like queued (with_grant w after) line (other_grant link like queued w after line other h)))

  ends : (w : Work) (grant : Grant) (input : End) → at grant_label grant.label w.port.grants ≡ Some grant → grant.state ≡ Leaving input false
      → (grant.label ≡ link.label → like → ⊥) → Leads Upstream link like queued w (without_grant w grant.label)
  ends w grant input found is unlike = leads_live Upstream link like queued w (without_grant w grant.label)
      (idle_grants w (without grant_label grant.label w.port.grants))
      (λ live line h. by_eq grant.label link.label
      (λ same t. (let here : at grant_label link.label w.port.grants ≡ Some grant = subst (λ (j : ℕ). at grant_label j w.port.grants ≡ Some grant) same found in
      by_move Upstream link like queued (without_grant w grant.label) line (record line { grant = states.NoGrant }) Release
      (ap (up.released line) (some_shown link like queued w line grant here h ∙ granted_as grant (Leaving input false) is))
      (own_ended link like queued w grant.label line live same (unlike same) h) refl))
      (λ other t. stays Upstream link like queued (without_grant w grant.label) line (other_ended link like queued w grant.label line other h)))

  -- *A grant is given back*: RECLAIM ACK is said where it is owed
  abbrev ack : Grant → Unnumbered
  ack grant = reclaim_ack (label_channel_of grant.label) grant.flow

  module _ (proper : is_label_number link.label ≡ true) where
    ack_heard : (v : Work) (grant : Grant) (line : Line) → grant.label ≡ link.label → Shown Upstream link like queued v line → (s : Session) → v.port.session ≡ Some s
        → heard_by Upstream link.label (ack grant (own_instance v.port.adjacency) (peer_instance v.port.adjacency) s.number)
        ≡ Some (lines.ReclaimAck line.upstream.own line.upstream.stored (flow_number grant.flow))
    ack_heard v grant line same h s opened =
        let estab : line.upstream.state ≡ Estab = estab_up link like queued v s line opened h in
        ap (λ (b : Bool). if b then Some (lines.ReclaimAck (own_instance v.port.adjacency).0 (peer_instance v.port.adjacency).0 (flow_number grant.flow)) else None)
        (names_own link.label grant.label proper same)
        ∙ (λ i. Some (lines.ReclaimAck (own_up link like queued v line h i).0 (peer_up link like queued v line Estab estab refl h i).0 (flow_number grant.flow)))

    ack_unheard : (grant : Grant) → grant.label ≢ link.label → (own peer : Instance) (n : ℕ) → heard_by Upstream link.label (ack grant own peer n) ≡ None
    ack_unheard grant other own peer n = ap (λ (b : Bool). if b then Some (lines.ReclaimAck own.0 peer.0 (flow_number grant.flow)) else None) (names_other link.label grant.label other)

    owed_own : (w : Work) (grant : Grant) (input : End) (line : Line) → w.halted ≡ false → at grant_label link.label w.port.grants ≡ Some grant → grant.label ≡ link.label
        → grant.state ≡ Leaving input true → (like → ⊥) → Shown Upstream link like queued w line → Reaches Upstream link like queued (ended w grant true) line
    owed_own w grant input line live here same is unlike h =
        let bare : Line = record line { grant = states.NoGrant } in
        let shown : Shown Upstream link like queued (without_grant w grant.label) bare = own_ended link like queued w grant.label line live same unlike h in
        let said : lines.Message = lines.ReclaimAck line.upstream.own line.upstream.stored (flow_number grant.flow) in
        begins_by Upstream link like queued (ended w grant true) line (sends Upstream bare (frame said)) line Release
        (ap (up.released line) (some_shown link like queued w line grant here h ∙ granted_as grant (Leaving input true) is))
        (aside Upstream link like queued (ended w grant true) (sends Upstream bare (frame said)) bare line refl
        (tells_up link like queued (without_grant w grant.label) (ack grant) said bare (ack_heard (without_grant w grant.label) grant bare same shown) (λ own peer n e. e) shown))

    gives : (role : Role) (w : Work) (grant : Grant) (state : GrantState) → at grant_label grant.label w.port.grants ≡ Some grant → grant.state ≡ state
        → (grant.label ≡ link.label → like → ⊥) → Leads role link like queued w (given_back_in w grant state)
    gives role w grant Idle found is unlike = leads_self role link like queued w
    gives role w grant ByController found is unlike = leads_self role link like queued w
    gives Downstream w grant (ByInput input) found is unlike = regrants link like queued w (put grant_label (record grant { state = ByController }) w.port.grants)
    gives Downstream w grant (Leaving input false) found is unlike = regrants link like queued w (without grant_label grant.label w.port.grants)
    gives Downstream w grant (Leaving input true) found is unlike = leads_on Downstream link like queued w (without_grant w grant.label) (ended w grant true)
        (regrants link like queued w (without grant_label grant.label w.port.grants))
        (tells_other (without_grant w grant.label) (ack grant) (λ own peer n. refl) (λ own peer n e. e))
    gives Upstream w grant (ByInput input) found is unlike = returns w grant input found is unlike
    gives Upstream w grant (Leaving input false) found is unlike = ends w grant input found is unlike
    gives Upstream w grant (Leaving input true) found is unlike = leads_live Upstream link like queued w (ended w grant true)
        (λ h. ap (λ (v : Work). tells v (ack grant)) (idle_grants w (without grant_label grant.label w.port.grants) h) ∙ idle_tells w (ack grant) h)
        (λ live line h. by_eq grant.label link.label
        (λ same t. owed_own w grant input line live (subst (λ (j : ℕ). at grant_label j w.port.grants ≡ Some grant) same found) same is (unlike same) h)
        (λ other t. stays Upstream link like queued (ended w grant true) line
        (tells_unheard link like queued (without_grant w grant.label) (ack grant) line (ack_unheard grant other) (λ own peer n e. e)
        (other_ended link like queued w grant.label line other h))))

    pub given_back_leads : (role : Role) (w : Work) (grant : Grant) → at grant_label grant.label w.port.grants ≡ Some grant
        → (grant.label ≡ link.label → like → ⊥) → Leads role link like queued w (given_back w grant)
    given_back_leads role w grant found unlike = gives role w grant grant.state found refl unlike

  -- *When all joins of an answer are released*, a port whose numbers are spent asks to be reset
  pub closes_lead : (role : Role) (w : Work) → Leads role link like queued w (halts_if_spent w)
  closes_lead role w line h = stays role link like queued (halts_if_spent w) line (closes_shown link like queued role w line h)

-- *The numbers* stay unspent where nothing is said
joins_unspent : (w : Work) (join : Option End) (o : Option Label) → IsUnspent w → IsUnspent (joins_label w join o)
joins_unspent w join None n = n
joins_unspent w join (Some label) n = unspent_label w (record label { join = join }) n

pub joined_unspent : (w : Work) (number : ℕ) (output : End) → IsUnspent w → IsUnspent (joined w number output)
joined_unspent w number output n = joins_unspent w (Some output) (label_at w.port number) n

pub parted_unspent : (w : Work) (number : ℕ) → IsUnspent w → IsUnspent (parted w number)
parted_unspent w number n = joins_unspent w None (label_at w.port number) n

pub lent_unspent : (w : Work) (grant : Grant) (input : End) → IsUnspent w → IsUnspent (lent w grant input)
lent_unspent w grant input n = room_grants w (put grant_label (record grant { state = ByInput input }) w.port.grants) n

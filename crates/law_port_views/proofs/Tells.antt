-- a port at work says a redirection message under its next number; where that is the last one it isn't said, and
-- the port is to be reset

use Rattle.std.proofs.Common.{◌≡◌, ℕ, ◌+◌, ◌≤◌, true, false, List, [], Option, None, Some, refl, sym, ◌∙◌, ap, subst, arith, if◌then◌else◌}
use Rattle.std.specs.Prelude.{nat_lt, is_some}
use Rattle.std.specs.Option.{option_map, option_map_or}
use Rattle.std.proofs.lemmas.Bool.Decides.{nat_tests}
use Rattle.law_port_facts.specs.port_model.Words.{Instance, State, Clearing, SynSent, SynRcvd, Estab, Peer, is_estab, SideByInstances, router, side_of, at, label_number, Session, Work, with_session, label_at, Unnumbered, last_number, spent_number, own_instance, tells_in, tells, halts_if_spent}
use Rattle.law_port_facts.proofs.Keyed.{on_each}
use Rattle.law_label_line.specs.Cells as lines
use Rattle.law_label_line.specs.Cells.{Role, Downstream, Upstream, Cell, frame}
use Rattle.law_label_line.specs.Line.{Line}
use Rattle.law_label_line.specs.Downstream.{sends_numbered, sends_other}
use Rattle.law_label_line.specs.Moves.{SendOther}
use Rattle.law_port_facts.specs.port_model.declared.action.Action.TheVariants.{Say}
use Rattle.law_port_facts.specs.port_model.Port.{with_action}
use Rattle.law_port_facts.specs.port_model.Saying.{peer_instance, with_number, says}
use Rattle.law_port_views.specs.Link.{LinkLabel}
use Rattle.law_port_views.specs.Heard.{heard_by, IsSaid}
use Rattle.law_port_views.specs.Shown.{label_of, flow_of, number_of, known_number, expected_number, Shown}
use Rattle.law_port_views.specs.Reaching.{ReachesFrom, Reaches}
use Rattle.law_port_views.proofs.Reach.{stays, begins_by, aside, next}
use Rattle.law_port_views.proofs.Queues.{sends}
use Rattle.law_port_views.proofs.Says.{acts_said, acts_unheard, lost_again, closes_shown}
use Rattle.law_port_views.proofs.Live.{live_session}

estab_is : (state : State) → is_estab state ≡ true → state ≡ Estab
estab_is Clearing e = absurd (cc e)
estab_is SynSent e = absurd (cc e)
estab_is SynRcvd e = absurd (cc e)
estab_is Estab e = refl

open_some : (o : Option Session) (s : Session) → o ≡ Some s → is_some o ≡ true
open_some o s e = ap is_some e

module _ (link : LinkLabel) (like : Type 0) (queued : List Cell) where
  -- a port with a session is in Estab
  pub estab_down : (w : Work) (s : Session) (line : Line) → w.port.session ≡ Some s → Shown Downstream link like queued w line → line.downstream.state ≡ Estab
  estab_down w s line opened h = estab_is line.downstream.state (sym h.session ∙ open_some w.port.session s opened)

  pub estab_up : (w : Work) (s : Session) (line : Line) → w.port.session ≡ Some s → Shown Upstream link like queued w line → line.upstream.state ≡ Estab
  estab_up w s line opened h = estab_is line.upstream.state (sym h.session ∙ open_some w.port.session s opened)

  -- its own instance and its peer's are the line's
  pub own_down : (w : Work) (line : Line) → Shown Downstream link like queued w line → own_instance w.port.adjacency ≡ record { 0 = line.downstream.own }
  own_down w line h = ap own_instance h.side

  pub peer_down : (w : Work) (line : Line) → line.downstream.state ≡ Estab → Shown Downstream link like queued w line
      → peer_instance w.port.adjacency ≡ record { 0 = line.downstream.stored }
  peer_down w line estab h = ap peer_instance h.side ∙ known_peer (router (link.address Downstream)) (router (link.address Upstream)) line.downstream w.port.adjacency.silence estab
    where
      known_peer : (own far : ℕ → Peer) (side : SideByInstances) (silence : ℕ) → side.state ≡ Estab
          → peer_instance (side_of own far side silence) ≡ (far side.stored).instance
      known_peer own far side silence e =
          ap (λ (state : State). peer_instance (side_of own far (record side { state = state }) silence)) e

  -- the session is another, with the same labels
  pub session_down : (w : Work) (before after : Session) (line : Line) → w.port.session ≡ Some before → after.labels ≡ before.labels
      → after.number ≤ spent_number → Shown Downstream link like queued w line
      → Shown Downstream link like queued (record w { port = record w.port { session = Some after } }) (record line { number = after.number; known = after.known })
  session_down w before after line opened labels room s =
      let same : at label_number link.label after.labels ≡ label_at w.port link.label
      = ap (at label_number link.label) labels ∙ sym (ap (λ (o : Option Session). at label_number link.label (option_map_or (λ (z : Session). z.labels) o [])) opened) in
      record {
        side = s.side;
        session = sym (open_some w.port.session before opened) ∙ s.session;
        label = s.label ∙ ap label_of (sym same);
        flow = s.flow ∙ ap (flow_of line.flow) (sym same);
        number = refl;
        unspent = room;
        known = refl;
        reassembled = s.reassembled;
        drawn = s.drawn;
        own = s.own;
        sent = s.sent;
      }

  -- to the other end only the number that it expects matters
  pub session_up : (w : Work) (before after : Session) (line : Line) → w.port.session ≡ Some before → Shown Upstream link like queued w line
      → Shown Upstream link like queued (record w { port = record w.port { session = Some after } }) (record line { expected = after.expected })
  session_up w before after line opened s = record {
    side = s.side;
    session = sym (open_some w.port.session before opened) ∙ s.session;
    grant = s.grant;
    once = s.once;
    lent = s.lent;
    expected = refl;
    drawn = s.drawn;
    own = s.own;
    sent = s.sent;
  }

  -- *The end that hands the label out* says a message that it numbers: the line says it under its own number
  told_last : (n : ℕ) → n ≤ last_number → nat_lt n last_number ≡ false → spent_number ≡ n + 1
  told_last n room e = grind (arith, nat_tests)

  told_room : (n : ℕ) → nat_lt n last_number ≡ true → n + 1 ≤ spent_number
  told_room n e = grind (arith, nat_tests)

  numbered_down : (w : Work) (s : Session) (n : ℕ) (line : Line) → w.halted ≡ false → w.port.session ≡ Some s → n ≡ s.number + 1 → n ≤ spent_number
      → Shown Downstream link like queued w line → Shown Downstream link like queued (with_number n w) (record line { number = line.number + 1 })
  numbered_down w s n line live opened e room h =
      live_session (λ (v : Work). Shown Downstream link like queued v (record line { number = line.number + 1 })) w s (λ session. record session { number = n }) live opened
      (let number : line.number ≡ s.number = h.number ∙ ap number_of opened in
      let known : line.known ≡ s.known = h.known ∙ ap known_number opened in
      subst (λ (k : ℕ). Shown Downstream link like queued (record w { port = record w.port { session = Some (record s { number = n }) } }) (record line { number = k }))
      (e ∙ ap (λ (k : ℕ). k + 1) (sym number))
      (subst (λ (k : ℕ). Shown Downstream link like queued (record w { port = record w.port { session = Some (record s { number = n }) } }) (record line { number = n; known = k }))
      (sym known) (session_down w s (record s { number = n }) line opened refl room h)))

  pub tells_down : (w : Work) (s : Session) (message : Unnumbered) (said : lines.Message) (line : Line) → w.halted ≡ false → w.port.session ≡ Some s
      → s.number ≤ last_number → heard_by Downstream link.label (message (own_instance w.port.adjacency) (peer_instance w.port.adjacency) s.number) ≡ Some said
      → IsSaid (link.address Upstream) message → Shown Downstream link like queued w line
      → ReachesFrom Downstream link like queued (tells w message) (sends_numbered line said) line
  tells_down w s message said line live opened room e own h =
      subst (λ (o : Option Session). ReachesFrom Downstream link like queued (tells_in w message o) (sends_numbered line said) line) (sym opened)
      (on_each (λ (v : Work). ReachesFrom Downstream link like queued v (sends_numbered line said) line) (nat_lt s.number last_number)
      (with_action (with_number (s.number + 1) w) (Say (message (own_instance w.port.adjacency) (peer_instance w.port.adjacency) s.number))) (with_number spent_number w)
      (λ t. aside Downstream link like queued (with_action (with_number (s.number + 1) w) (Say (message (own_instance w.port.adjacency) (peer_instance w.port.adjacency) s.number)))
      (sends_numbered line said) (record line { number = line.number + 1 }) line refl
      (acts_said link like queued Downstream (with_number (s.number + 1) w) (message (own_instance w.port.adjacency) (peer_instance w.port.adjacency) s.number) said
      (record line { number = line.number + 1 }) e (own (own_instance w.port.adjacency) (peer_instance w.port.adjacency) s.number t)
      (numbered_down w s (s.number + 1) line live opened refl (told_room s.number t) h)))
      (λ f. aside Downstream link like queued (with_number spent_number w) (sends_numbered line said) (record line { number = line.number + 1 }) line refl
      (lost_again link like queued Downstream (with_number spent_number w) said (record line { number = line.number + 1 })
      (numbered_down w s spent_number line live opened (told_last s.number room f) (omega arith) h))))

  closes_on : (role : Role) (w : Work) (start line : Line) → ReachesFrom role link like queued w start line → ReachesFrom role link like queued (halts_if_spent w) start line
  closes_on role w start line r = next role link like queued w (halts_if_spent w) start line r (λ z k. stays role link like queued (halts_if_spent w) z (closes_shown link like queued role w z k))

  pub says_down : (w : Work) (s : Session) (message : Unnumbered) (said : lines.Message) (line : Line) → w.halted ≡ false → w.port.session ≡ Some s
      → s.number ≤ last_number → heard_by Downstream link.label (message (own_instance w.port.adjacency) (peer_instance w.port.adjacency) s.number) ≡ Some said
      → IsSaid (link.address Upstream) message → Shown Downstream link like queued w line
      → ReachesFrom Downstream link like queued (says w message) (sends_numbered line said) line
  says_down w s message said line live opened room e own h = closes_on Downstream (tells w message) (sends_numbered line said) line
      (tells_down w s message said line live opened room e own h)

  -- a message that isn't of the label
  pub sends_other_down : (line : Line) → line.downstream.state ≡ Estab
      → sends_other line ≡ sends_numbered line (lines.Other line.downstream.own line.downstream.stored line.number)
  sends_other_down line estab = ap (λ (state : State). if is_estab state then sends_numbered line (lines.Other line.downstream.own line.downstream.stored line.number) else line) estab

  pub says_other : (w : Work) (s : Session) (message : Unnumbered) (line : Line) → w.halted ≡ false → w.port.session ≡ Some s → s.number ≤ last_number
      → ((own peer : Instance) (n : ℕ) → heard_by Downstream link.label (message own peer n) ≡ Some (lines.Other own.0 peer.0 n))
      → IsSaid (link.address Upstream) message → Shown Downstream link like queued w line → Reaches Downstream link like queued (says w message) line
  says_other w s message line live opened room e own h =
      let estab : line.downstream.state ≡ Estab = estab_down w s line opened h in
      let said : lines.Message = lines.Other line.downstream.own line.downstream.stored line.number in
      let number : s.number ≡ line.number = sym (h.number ∙ ap number_of opened) in
      begins_by Downstream link like queued (says w message) line (sends_numbered line said) line SendOther (sends_other_down line estab)
      (says_down w s message said line live opened room
      (e (own_instance w.port.adjacency) (peer_instance w.port.adjacency) s.number
      ∙ (λ i. Some (lines.Other (own_down w line h i).0 (peer_down w line estab h i).0 (number i)))) own h)

  -- *The end that may send under it*: the line follows nothing of its session but the number that it expects
  pub session_minded : (w : Work) (change : Session → Session) (line : Line) → ((z : Session) → (change z).expected ≡ z.expected)
      → Shown Upstream link like queued w line → Shown Upstream link like queued (with_session w change) line
  session_minded w change line keeps h = on_each (λ (v : Work). Shown Upstream link like queued v line) w.halted w
      (record w { port = record w.port { session = option_map change w.port.session } }) (λ t. h)
      (λ f. record {
        side = h.side;
        session = still_open w.port.session ∙ h.session;
        grant = h.grant;
        once = h.once;
        lent = h.lent;
        expected = h.expected ∙ sym (still_expected w.port.session);
        drawn = h.drawn;
        own = h.own;
        sent = h.sent;
      })
    where
      still_open : (o : Option Session) → is_some (option_map change o) ≡ is_some o
      still_open None = refl
      still_open (Some s) = refl

      still_expected : (o : Option Session) → expected_number (option_map change o) ≡ expected_number o
      still_expected None = refl
      still_expected (Some s) = keeps s

  numbered_up : (w : Work) (n : ℕ) (line : Line) → Shown Upstream link like queued w line → Shown Upstream link like queued (with_number n w) line
  numbered_up w n line h = session_minded w (λ session. record session { number = n }) line (λ z. refl) h

  pub tells_up : (w : Work) (message : Unnumbered) (said : lines.Message) (line : Line)
      → ((s : Session) → w.port.session ≡ Some s → heard_by Upstream link.label (message (own_instance w.port.adjacency) (peer_instance w.port.adjacency) s.number) ≡ Some said)
      → IsSaid (link.address Downstream) message → Shown Upstream link like queued w line
      → ReachesFrom Upstream link like queued (tells w message) (sends Upstream line (frame said)) line
  tells_up w message said line e own h = told w.port.session refl
    where
      told : (o : Option Session) → w.port.session ≡ o → ReachesFrom Upstream link like queued (tells_in w message o) (sends Upstream line (frame said)) line
      told None opened = lost_again link like queued Upstream w said line h
      told (Some s) opened = on_each (λ (v : Work). ReachesFrom Upstream link like queued v (sends Upstream line (frame said)) line) (nat_lt s.number last_number)
          (with_action (with_number (s.number + 1) w) (Say (message (own_instance w.port.adjacency) (peer_instance w.port.adjacency) s.number))) (with_number spent_number w)
          (λ t. acts_said link like queued Upstream (with_number (s.number + 1) w) (message (own_instance w.port.adjacency) (peer_instance w.port.adjacency) s.number) said line (e s opened)
          (own (own_instance w.port.adjacency) (peer_instance w.port.adjacency) s.number t) (numbered_up w (s.number + 1) line h))
          (λ f. lost_again link like queued Upstream (with_number spent_number w) said line (numbered_up w spent_number line h))

  pub says_up : (w : Work) (message : Unnumbered) (said : lines.Message) (line : Line)
      → ((s : Session) → w.port.session ≡ Some s → heard_by Upstream link.label (message (own_instance w.port.adjacency) (peer_instance w.port.adjacency) s.number) ≡ Some said)
      → IsSaid (link.address Downstream) message → Shown Upstream link like queued w line
      → ReachesFrom Upstream link like queued (says w message) (sends Upstream line (frame said)) line
  says_up w message said line e own h = closes_on Upstream (tells w message) (sends Upstream line (frame said)) line (tells_up w message said line e own h)

  pub tells_unheard : (w : Work) (message : Unnumbered) (line : Line) → ((own peer : Instance) (n : ℕ) → heard_by Upstream link.label (message own peer n) ≡ None)
      → IsSaid (link.address Downstream) message → Shown Upstream link like queued w line → Shown Upstream link like queued (tells w message) line
  tells_unheard w message line e own h = told w.port.session
    where
      told : (o : Option Session) → Shown Upstream link like queued (tells_in w message o) line
      told None = h
      told (Some s) = on_each (λ (v : Work). Shown Upstream link like queued v line) (nat_lt s.number last_number)
          (with_action (with_number (s.number + 1) w) (Say (message (own_instance w.port.adjacency) (peer_instance w.port.adjacency) s.number))) (with_number spent_number w)
          (λ t. acts_unheard link like queued Upstream (with_number (s.number + 1) w) (message (own_instance w.port.adjacency) (peer_instance w.port.adjacency) s.number) line
          (e (own_instance w.port.adjacency) (peer_instance w.port.adjacency) s.number) (own (own_instance w.port.adjacency) (peer_instance w.port.adjacency) s.number t) (numbered_up w (s.number + 1) line h))
          (λ f. numbered_up w spent_number line h)

  pub says_unheard : (w : Work) (message : Unnumbered) (line : Line) → ((own peer : Instance) (n : ℕ) → heard_by Upstream link.label (message own peer n) ≡ None)
      → IsSaid (link.address Downstream) message → Shown Upstream link like queued w line → Shown Upstream link like queued (says w message) line
  says_unheard w message line e own h = closes_shown link like queued Upstream (tells w message) line (tells_unheard w message line e own h)

-- an ACK tells which number the peer expects: the line learns it, and labels are quit

use Rattle.std.proofs.Common.{◌≡◌, ℕ, ◌≤◌, Bool, true, false, List, [], Option, None, Some, refl, sym, ◌∙◌, ap, subst, arith, map, if◌then◌else◌}
use Rattle.std.specs.Prelude.{nat_lt, max, ◌||◌}
use Rattle.std.specs.Option.{option_map_or}
use Rattle.std.proofs.lemmas.Bool.Decides.{nat_tests}
use Rattle.law_port_facts.specs.port_model.Words.{Addr, Reply, Silent, Says, Resets, SideByInstances, Opened, Desk, on_input, DeleteTree, at, Setup, label_end, Label, LabelState, Wiring, Offered, Recalled, Wired, label_number, Session, Work, with_session, with_label, label_at, labels_of, known_of, desk_after, has_room, spent_number, unwires, quits_label, quits_in, quits_found, quits, learns}
use Rattle.law_port_facts.specs.port_model.ifmp_wire.declared.message.Message.TheVariants.{Adjacency}
use Rattle.law_port_facts.proofs.Keyed.{on_both, on_each, by_eq, at_key}
use Rattle.law_label_line.specs.Cells.{Role, Downstream, Upstream, Cell}
use Rattle.law_label_line.specs.Line as lines
use Rattle.law_label_line.specs.Line.{Line}
use Rattle.law_label_line.specs.Downstream as down
use Rattle.law_label_line.specs.Moves.{Quit}
use Rattle.law_port_facts.specs.port_model.declared.action.Action.{Action}
use Rattle.law_port_facts.specs.port_model.declared.action.Action.TheVariants.{Say, Ask, Note, CutChain}
use Rattle.law_port_facts.specs.port_model.Port.{Port, with_action}
use Rattle.law_port_views.specs.Link.{LinkLabel}
use Rattle.law_port_views.specs.Shown.{label_of, number_of, known_number, Shown}
use Rattle.law_port_views.specs.Reaching.{Reaches, Leads}
use Rattle.law_port_views.proofs.Reach.{stays, by_move, leads_on, leads_fold}
use Rattle.law_port_views.proofs.Says.{acts_quiet}
use Rattle.law_port_views.proofs.Live.{live_session, idle_acts, idle_session}
use Rattle.law_port_views.proofs.Tells.{session_down, session_minded}
use Rattle.law_port_views.proofs.Labels.{labelled, own_label, other_label, label_up}
use Rattle.law_port_views.proofs.Greets.{says_hello, replied, noted_open}

-- *What the peer expects* is known; it makes nothing of what is said before or after
abbrev pub knowing : (next : ℕ) → Work → Work
knowing n w = with_session w (λ s. record s { known = max s.known n })

knowing_acts : (n : ℕ) (w : Work) (action : Action) → knowing n (with_action w action) ≡ with_action (knowing n w) action
knowing_acts n w action = by w.port w.actions w.halted w.instances
  where
    by : (port : Port) (actions : List Action) (halted : Bool) (instances : ℕ)
        → (let v : Work = record { port = port; actions = actions; halted = halted; instances = instances } in
        knowing n (with_action v action) ≡ with_action (knowing n v) action)
    by port actions true instances = refl
    by port actions false instances = refl

pub knowing_replied : (n : ℕ) (own far : Addr) (expected : ℕ) (side : SideByInstances) (sender receiver : ℕ) (w : Work) (reply : Reply)
    → knowing n (replied own far expected side sender receiver w reply) ≡ replied own far expected side sender receiver (knowing n w) reply
knowing_replied n own far expected side sender receiver w Silent = refl
knowing_replied n own far expected side sender receiver w (Says kind) = knowing_acts n w (Say (Adjacency (says_hello own far expected side kind sender receiver)))
knowing_replied n own far expected side sender receiver w Resets = refl

pub knowing_open : (n : ℕ) (setup : Setup) (b : Bool) (w : Work) → knowing n (noted_open setup b w) ≡ noted_open setup b (knowing n w)
knowing_open n setup true w = knowing_acts n w (Note (Opened setup.node setup.port))
knowing_open n setup false w = refl

-- *The line learns it*
pub learns_is : (line : Line) (k n : ℕ) → line.known ≡ k → down.learns line true n ≡ record line { known = max k n }
learns_is line k n e = on_each (λ (z : Line). z ≡ record line { known = max k n }) (nat_lt line.known n) (record line { known = n }) line
    (λ t. ap (λ (j : ℕ). record line { known = j }) (above t)) (λ f. ap (λ (j : ℕ). record line { known = j }) (below f))
  where
    above : nat_lt line.known n ≡ true → n ≡ max k n
    above t = grind (arith, nat_tests, e)

    below : nat_lt line.known n ≡ false → line.known ≡ max k n
    below f = grind (arith, nat_tests, e)

module _ (link : LinkLabel) (like : Type 0) (queued : List Cell) where
  pub knows_down : (w : Work) (s : Session) (n : ℕ) (line : Line) → w.halted ≡ false → w.port.session ≡ Some s → Shown Downstream link like queued w line
      → Shown Downstream link like queued (knowing n w) (record line { known = max s.known n })
  knows_down w s n line live opened h =
      let number : line.number ≡ s.number = h.number ∙ ap number_of opened in
      live_session (λ (v : Work). Shown Downstream link like queued v (record line { known = max s.known n })) w s (λ z. record z { known = max z.known n }) live opened
      (subst (λ (k : ℕ). Shown Downstream link like queued (record w { port = record w.port { session = Some (record s { known = max s.known n }) } }) (record line { number = k; known = max s.known n }))
      (sym number) (session_down link like queued w s (record s { known = max s.known n }) line opened refl (subst (λ (k : ℕ). k ≤ spent_number) number h.unspent) h))

  pub knows_up : (w : Work) (n : ℕ) (line : Line) → Shown Upstream link like queued w line → Shown Upstream link like queued (knowing n w) line
  knows_up w n line h = session_minded link like queued w (λ z. record z { known = max z.known n }) line (λ z. refl) h

  -- *A label is quit*: its chain is cut and its branch is to be deleted, of which the line sees nothing
  cuts : (role : Role) (w : Work) (number : ℕ) → Leads role link like queued w (with_action w (CutChain number))
  cuts role w number line h = stays role link like queued (with_action w (CutChain number)) line (acts_quiet link like queued role w (CutChain number) line (record { none = refl; own = tt }) h)

  pub deletes : (role : Role) (setup : Setup) (desk : Desk) (w : Work) (number : ℕ) → Leads role link like queued w (unwires setup desk w number)
  deletes role setup desk w number line h = stays role link like queued (unwires setup desk w number) line
      (on_both (λ (v : Work). Shown role link like queued v line) (on_input (desk_after desk w) (label_end setup.port number) || has_room desk w)
      (with_action w (Ask (DeleteTree (label_end setup.port number)) (on_input (desk_after desk w) (label_end setup.port number)))) w
      (acts_quiet link like queued role w (Ask (DeleteTree (label_end setup.port number)) (on_input (desk_after desk w) (label_end setup.port number))) line (record { none = refl; own = tt }) h) h)

  wires : (role : Role) (setup : Setup) (desk : Desk) (w : Work) (x : Label) → Leads role link like queued w (with_label w (record x { state = Wired }))
      → Leads role link like queued w (quits_label setup desk w x)
  wires role setup desk w x f =
      let v : Work = with_label w (record x { state = Wired }) in
      leads_on role link like queued w v (quits_label setup desk w x) f
      (leads_on role link like queued v (with_action v (CutChain x.number)) (quits_label setup desk w x) (cuts role v x.number)
      (deletes role setup desk (with_action v (CutChain x.number)) x.number))

  -- at the end that hands it out: the label of the line, or another
  quit_is : (line : Line) (last k : ℕ) → line.label ≡ lines.Recalled last true → line.known ≡ k → nat_lt last k ≡ true → line.reassembly ≡ []
      → down.quit line line.label ≡ labelled line lines.Wired line.flow
  quit_is line last k label known t none =
      ap (down.quit line) label
      ∙ (ap (λ (b : Bool). if b then record line { label = lines.Wired; reassembly = [] } else line) (ap (nat_lt last) known ∙ t)
      ∙ ap (λ (xs : List ℕ). record line { label = lines.Wired; reassembly = xs }) (sym none))

  own_wired : (w : Work) (s : Session) (x : Label) (last : ℕ) → w.halted ≡ false → w.port.session ≡ Some s → label_at w.port link.label ≡ Some x → x.number ≡ link.label
      → x.state ≡ Recalled last true → nat_lt last (known_of w.port) ≡ true
      → Leads Downstream link like queued w (with_label w (record x { state = Wired }))
  own_wired w s x last live opened found number state t line h =
      by_move Downstream link like queued (with_label w (record x { state = Wired })) line (labelled line lines.Wired line.flow) Quit
      (quit_is line last s.known (h.label ∙ (ap label_of found ∙ recalled x state)) (h.known ∙ ap known_number opened)
      (ap (λ (o : Option Session). nat_lt last (option_map_or (λ (z : Session). z.known) o 0)) (sym opened) ∙ t) h.reassembled)
      (own_label link like queued w s x (record x { state = Wired }) line lines.Wired line.flow live opened found number refl refl h) refl
    where
      recalled : (x : Label) → x.state ≡ Recalled last true → label_of (Some x) ≡ lines.Recalled last true
      recalled x e = ap (λ (z : LabelState). label_of (Some (record x { state = z }))) e

  quits_live : (setup : Setup) (desk : Desk) (w : Work) (s : Session) (x : Label) (n last : ℕ) → w.halted ≡ false → w.port.session ≡ Some s → label_at w.port n ≡ Some x
      → x.state ≡ Recalled last true → nat_lt last (known_of w.port) ≡ true → Leads Downstream link like queued w (quits_label setup desk w x)
  quits_live setup desk w s x n last live opened found state t =
      let number : x.number ≡ n = at_key label_number n (labels_of w.port) x found in
      wires Downstream setup desk w x
      (by_eq x.number link.label
      (λ e u. own_wired w s x last live opened (subst (λ (j : ℕ). label_at w.port j ≡ Some x) (sym number ∙ e) found) e state t)
      (λ e u line h. stays Downstream link like queued (with_label w (record x { state = Wired })) line
      (other_label link like queued w s (record x { state = Wired }) line live opened e h)))

  -- a port that is to be reset does nothing
  idle_quits : (setup : Setup) (desk : Desk) (w : Work) (x : Label) → w.halted ≡ true → quits_label setup desk w x ≡ w
  idle_quits setup desk w x h =
      ap (λ (v : Work). unwires setup desk v x.number)
      (ap (λ (v : Work). with_action v (CutChain x.number)) (idle_session w _ h) ∙ idle_acts w (CutChain x.number) h)
      ∙ on_both (λ (v : Work). v ≡ w) (on_input (desk_after desk w) (label_end setup.port x.number) || has_room desk w)
      (with_action w (Ask (DeleteTree (label_end setup.port x.number)) (on_input (desk_after desk w) (label_end setup.port x.number)))) w
      (idle_acts w (Ask (DeleteTree (label_end setup.port x.number)) (on_input (desk_after desk w) (label_end setup.port x.number))) h) refl

  quits_of : (setup : Setup) (desk : Desk) (w : Work) (o : Option Session) (x : Label) (n last : ℕ) (b : Bool) → w.halted ≡ b → w.port.session ≡ o → label_at w.port n ≡ Some x
      → x.state ≡ Recalled last true → nat_lt last (known_of w.port) ≡ true → Leads Downstream link like queued w (quits_label setup desk w x)
  quits_of setup desk w o x n last true halted opened found state t =
      λ line h. subst (λ (v : Work). Reaches Downstream link like queued v line) (sym (idle_quits setup desk w x halted)) (stays Downstream link like queued w line h)
  quits_of setup desk w None x n last false live opened found state t =
      let none : label_at w.port n ≡ None = ap (λ (o : Option Session). at label_number n (option_map_or (λ (z : Session). z.labels) o [])) opened in
      absurd (cc (none, found))
  quits_of setup desk w (Some s) x n last false live opened found state t = quits_live setup desk w s x n last live opened found state t

  quits_down : (setup : Setup) (desk : Desk) (w : Work) (n : ℕ) → Leads Downstream link like queued w (quits setup desk w n)
  quits_down setup desk w n line h = by (label_at w.port n) refl
    where
      by_state : (x : Label) (state : LabelState) → label_at w.port n ≡ Some x → x.state ≡ state → Reaches Downstream link like queued (quits_in setup desk w x state) line
      by_state x Wiring found e = stays Downstream link like queued w line h
      by_state x Offered found e = stays Downstream link like queued w line h
      by_state x (Recalled last true) found e = on_each (λ (v : Work). Reaches Downstream link like queued v line) (nat_lt last (known_of w.port)) (quits_label setup desk w x) w
          (λ t. quits_of setup desk w w.port.session x n last w.halted refl refl found e t line h) (λ f. stays Downstream link like queued w line h)
      by_state x (Recalled last false) found e = stays Downstream link like queued w line h
      by_state x Wired found e = stays Downstream link like queued w line h

      by : (o : Option Label) → label_at w.port n ≡ o → Reaches Downstream link like queued (quits_found setup desk w o) line
      by None found = stays Downstream link like queued w line h
      by (Some x) found = by_state x x.state found refl

  -- the other end has no label of its port
  quits_up : (setup : Setup) (desk : Desk) (w : Work) (n : ℕ) → Leads Upstream link like queued w (quits setup desk w n)
  quits_up setup desk w n line h = by (label_at w.port n)
    where
      by_state : (x : Label) (state : LabelState) → Reaches Upstream link like queued (quits_in setup desk w x state) line
      by_state x Wiring = stays Upstream link like queued w line h
      by_state x Offered = stays Upstream link like queued w line h
      by_state x (Recalled last true) = on_both (λ (v : Work). Reaches Upstream link like queued v line) (nat_lt last (known_of w.port)) (quits_label setup desk w x) w
          (wires Upstream setup desk w x (λ z k. stays Upstream link like queued (with_label w (record x { state = Wired })) z (label_up link like queued w (record x { state = Wired }) z k)) line h)
          (stays Upstream link like queued w line h)
      by_state x (Recalled last false) = stays Upstream link like queued w line h
      by_state x Wired = stays Upstream link like queued w line h

      by : (o : Option Label) → Reaches Upstream link like queued (quits_found setup desk w o) line
      by None = stays Upstream link like queued w line h
      by (Some x) = by_state x x.state

  pub quits_lead : (role : Role) (setup : Setup) (desk : Desk) (w : Work) (n : ℕ) → Leads role link like queued w (quits setup desk w n)
  quits_lead Downstream setup desk w n = quits_down setup desk w n
  quits_lead Upstream setup desk w n = quits_up setup desk w n

  -- *It learns*, once the number is known
  pub learns_from : (role : Role) (setup : Setup) (desk : Desk) (w : Work) (n : ℕ) → Leads role link like queued (knowing n w) (learns setup desk w n)
  learns_from role setup desk w n = leads_fold role link like queued (quits setup desk) (quits_lead role setup desk) (map label_number (labels_of (knowing n w).port)) (knowing n w)

  pub learns_idle : (role : Role) (setup : Setup) (desk : Desk) (w : Work) (n : ℕ) → w.halted ≡ true → Leads role link like queued w (learns setup desk w n)
  learns_idle role setup desk w n h = subst (λ (v : Work). Leads role link like queued v (learns setup desk w n)) (idle_session w (λ s. record s { known = max s.known n }) h)
      (learns_from role setup desk w n)

  pub learns_up : (setup : Setup) (desk : Desk) (w : Work) (n : ℕ) → Leads Upstream link like queued w (learns setup desk w n)
  learns_up setup desk w n = leads_on Upstream link like queued w (knowing n w) (learns setup desk w n)
      (λ line h. stays Upstream link like queued (knowing n w) line (knows_up w n line h)) (learns_from Upstream setup desk w n)

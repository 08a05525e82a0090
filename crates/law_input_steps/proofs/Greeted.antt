-- the controller hears a greeting of its switch, and ticks; on entering Estab it begins to meet the switch

use Rattle.std.proofs.Common.{◌≡◌, ℕ, Bool, true, false, not, List, [], ◌∷◌, ◌++◌, refl, sym, ◌∙◌, ap, subst, replicate, append_assoc, append-nil, arith, if◌then◌else◌}
use Rattle.std.specs.Prelude.{◌&&◌}
use Rattle.law_input_views.specs.world_model.Words.{End, NodeId, Greeting, HelloKind, Syn, Synack, Rstack, Ack, Party, next_control, with_control, State, Clearing, SynSent, SynRcvd, Estab, Side, Step, is_estab, ticked, Reply, Silent, Says, Resets, Row, row, tick_reply, SideByInstances, row_for, after_row, enters, is_reset, greeting, side_of, said_by, step_by, tick_by, greeting_of, gsmp_answer, gsmp_received, frame_cells, empty_desk, message_of, Switch, default_channel, with_desk, says_gsmp, asks_next, node_resets, meets}
use Rattle.law_input_views.specs.world_model.adjacency_table.Side.{counted}
use Rattle.law_input_views.proofs.law_port_facts.port_model.adjacency_table.EndsLemmas.{gsmp_received_by_instances, ticked_by_instances}
use Rattle.law_input_views.specs.world_model.gsmp_wire.declared.message.Message.{Message}
use Rattle.law_input_views.specs.world_model.gsmp_wire.declared.message.Message.TheVariants.{Adjacency}
use Rattle.law_input_views.specs.world_model.gsmp_wire.declared.request.Request.TheVariants.{AllPorts}
use Rattle.law_input_views.specs.world_model.gsmp_wire.Layout.{octets_of}
use Rattle.law_input_views.proofs.ordered_lists.Parts.{IsPart, part_whole, part_none, part_join}
use Rattle.law_input_views.specs.world_model.port_model.Desk.{asked}
use Rattle.law_input_views.specs.law_branch_line.Words.{ToSwitch, ControllerGreets, Copy, Elsewhere, ToController, SwitchGreets}
use Rattle.law_input_views.specs.law_branch_line.Line.{Line, Controller as LineController, spoken, Unasked, Listing}
use Rattle.law_input_views.specs.law_branch_line.Asking.{say}
use Rattle.law_input_views.specs.law_branch_line.Controller.{reset_node, meet, meet_on_entering, tick_controller}
use Rattle.law_input_views.specs.law_branch_line.Moves.{ControllerTakes, ControllerTicks, LoseAtController, AskOtherAgain}
use Rattle.law_input_views.specs.world_model.Controller.{Acted}
use Rattle.law_input_views.specs.world_model.Gsmp.{answers, steps}
use Rattle.law_input_views.specs.law_shown_cells.Seen.{Word}
use Rattle.law_input_views.specs.Words.{own_of, is_own_greeting, seen_on_gsmp, erased}
use Rattle.law_input_views.specs.Shown.{controller_of, switch_of, AskedShows}
use Rattle.law_input_views.proofs.Cells.{frame_of_answer}
use Rattle.law_input_steps.specs.Part.{Part, part_at, OwnShows, Stands, Reaches, AnyLine, Leads}
use Rattle.law_input_steps.proofs.Goes.{stays, goes_to, goes_next, by_move, lose_to_switch}
use Rattle.law_input_steps.proofs.Reach.{reaches_by, reaches_behind, stands_later}
use Rattle.law_input_steps.proofs.Sent.{IsReadable, pool, pool_shows, pool_part, with_made, with_sent, control_sent, made_extends, made_unmade, made_under, again_each}
use Rattle.law_input_steps.proofs.Asks.{seen_to_switch, IsCopied, copied, asked_part, sent_stands, line_estab}
use Rattle.law_input_steps.proofs.Resets.{reset_any}
use Rattle.law_input_steps.proofs.Parties.{greeting_is, greeting_seen, Reads, answer_at}

pool_parts : {A : Type 0} (fits : Bool) (q xs ys : List A) → IsPart q xs → IsPart (pool fits q ys) (xs ++ ys)
pool_parts true q xs ys p = part_join p (part_whole ys)
pool_parts false q xs ys p = subst (λ (z : List _). IsPart z (xs ++ ys)) (append-nil q) (part_join p (part_none ys))

-- a row keeps Estab
row_estab : (st : State) (kind : HelloKind) (meant known : Bool) → is_estab st ≡ true → is_estab (row st kind meant known).next ≡ true
row_estab Clearing kind meant known h = absurd (cc h)
row_estab SynSent kind meant known h = absurd (cc h)
row_estab SynRcvd kind meant known h = absurd (cc h)
row_estab Estab Syn meant known h = refl
row_estab Estab Synack meant known h = refl
row_estab Estab Rstack meant known h = refl
row_estab Estab Ack true true h = refl
row_estab Estab Ack true false h = refl
row_estab Estab Ack false known h = refl

same_estab : (a b : Bool) → (not a && b) ≡ false → (a ≡ true → b ≡ true) → b ≡ a
same_estab true b h f = f refl
same_estab false b h f = h

entered : (a b : Bool) → (not a && b) ≡ true → (a ≡ false) × (b ≡ true)
entered true b h = absurd (cc h)
entered false b h = (refl, h)

module _ (node : NodeId) (input : End) where
  -- *A greeting is said*
  erased_greeting : (side : SideByInstances) (kind : HelloKind) (s r : ℕ) → erased (greeting ControllerGreets side kind s r) ≡ greeting ControllerGreets side kind s r
  erased_greeting side Syn s r = refl
  erased_greeting side Synack s r = refl
  erased_greeting side Rstack s r = refl
  erased_greeting side Ack s r = refl

  abbrev said_of : SideByInstances → HelloKind → (s r : ℕ) → Message
  said_of side kind s r = Adjacency (greeting_of (greeting (said_by (controller_of node) (switch_of node)) side kind s r))

  own_number : (n : ℕ) → (controller_of node n).instance.0 ≡ n
  own_number n = refl

  far_number : (n : ℕ) → (switch_of node n).instance.0 ≡ n
  far_number n = refl

  said_stands : (p : Part) (side : SideByInstances) (kind : HelloKind) (s r : ℕ) (fits : Bool) (line : Line) → IsReadable (said_of side kind s r) → Stands node input p line
      → Stands node input (with_sent p default_channel (octets_of (said_of side kind s r)) fits) (record line { to_switch = pool fits line.to_switch (greeting ControllerGreets side kind s r ∷ []) })
  said_stands p side kind s r fits line reads h = record {
    own = h.own;
    far = h.far;
    to_switch = pool_shows fits later.to_switch
        (frame_of_answer (seen_to_switch node input) erased (with_made p payload).frames (next_control p.numbers) payload w
        (ap (seen_on_gsmp (seen_to_switch node input) false) (made_under p payload) ∙ ap (seen_to_switch node input false) reads)
        (ap (seen_on_gsmp (seen_to_switch node input) true) (made_under p payload) ∙ (ap (seen_to_switch node input true) reads
        ∙ (greeting_seen (controller_of node) (switch_of node) own_number far_number ControllerGreets side kind s r ∙ ap (λ (z : ToSwitch). Word z) (sym (erased_greeting side kind s r))))));
    at_switch = later.at_switch;
    to_controller = later.to_controller;
    gathered = later.gathered;
    at_controller = h.at_controller;
    drawn = h.drawn;
    before = h.before;
    behind = h.behind;
    unmade = later.unmade;
    numbered = h.numbered;
  }
    where
      w : ToSwitch
      w = greeting ControllerGreets side kind s r

      payload : List ℕ
      payload = octets_of (said_of side kind s r)

      later : Stands node input (with_made p payload) line
      later = stands_later node input p (with_made p payload).frames (with_control p.numbers) line (made_extends p payload h.unmade) (made_unmade p payload h.unmade) (omega arith) h

  -- by the line that has said it
  says_line : (switch : Switch) (a : Acted) (side : SideByInstances) (kind : HelloKind) (s r : ℕ) (line : Line) → IsReadable (said_of side kind s r) → Stands node input (part_at input switch a) line
      → Reaches node input (part_at input switch (says_gsmp a (said_of side kind s r))) AnyLine (say line (greeting ControllerGreets side kind s r ∷ []))
  says_line switch a side kind s r line reads h =
      let w : ToSwitch = greeting ControllerGreets side kind s r in
      control_sent input switch (λ (q : Part). Reaches node input q AnyLine (say line (w ∷ []))) a default_channel (octets_of (said_of side kind s r))
      (λ fits. reaches_by node input (with_sent (part_at input switch a) default_channel (octets_of (said_of side kind s r)) fits) (say line (w ∷ [])) (record line { to_switch = pool fits line.to_switch (w ∷ []) })
      (lose_to_switch line (pool_part fits line.to_switch (w ∷ []))) (said_stands (part_at input switch a) side kind s r fits line reads h))

  silent_line : (p : Part) (line : Line) → Stands node input p line → Reaches node input p AnyLine (say line [])
  silent_line p line h = reaches_by node input p (say line []) line (goes_to (say line []) (say line []) line (stays (say line [])) (ap (λ (z : List ToSwitch). record line { to_switch = z }) (append-nil line.to_switch))) h

  -- *Estab is entered*: numbers begin at 1, and All Ports alone stands
  abbrev begun_controller : LineController → SideByInstances → LineController
  begun_controller c side = record c { adjacency = side; next = 1; asked = Unasked; others = []; meeting = Listing }

  abbrev met_controller : LineController → SideByInstances → LineController
  met_controller c side = record c { adjacency = side; next = 2; asked = Unasked; others = record { number = 1; message_type = 66 } ∷ []; meeting = Listing }

  abbrev with_words : Line → LineController → List ToSwitch → Line
  with_words line c words = record line { controller = c; to_switch = words }

  begun_stands : (p : Part) (line : Line) (side : SideByInstances) (silence : ℕ) → is_estab side.state ≡ true → p.met ≡ false → Stands node input p line
      → Stands node input (record p { adjacency = side_of (controller_of node) (switch_of node) side silence; desk = empty_desk }) (with_words line (begun_controller line.controller side) line.to_switch)
  begun_stands p line side silence estab met h = record {
    own = record {
      side = refl;
      next = λ e. refl;
      asked = subst (λ (t : Bool). AskedShows input t [] Unasked) (sym estab) refl;
      others = refl;
      met = sym met;
      phase = tt;
    };
    far = h.far;
    to_switch = h.to_switch;
    at_switch = h.at_switch;
    to_controller = h.to_controller;
    gathered = h.gathered;
    at_controller = h.at_controller;
    drawn = h.drawn;
    before = h.before;
    behind = h.behind;
    unmade = h.unmade;
    numbered = record { below = tt; earlier = tt };
  }

  met_line : (p : Part) (line : Line) (side : SideByInstances) (q xs : List ToSwitch) (fits : Bool) → is_estab side.state ≡ true → p.met ≡ false → IsPart q xs → IsReadable (message_of [] 1 AllPorts)
      → Stands node input (record p { desk = empty_desk }) (with_words line (begun_controller line.controller side) q)
      → Reaches node input (asked_part node input (record p { desk = empty_desk }) AllPorts fits) AnyLine (with_words line (met_controller line.controller side) (xs ++ Copy side.own 1 (Elsewhere 66) ∷ []))
  met_line p line side q xs fits estab met part reads h =
      let c : ToSwitch = Copy side.own 1 (Elsewhere 66) in
      let k : IsCopied node input (with_made p (octets_of (message_of [] 1 AllPorts))).frames (frame_cells default_channel (next_control p.numbers) (octets_of (message_of [] 1 AllPorts))) c =
      copied node input (record p { desk = empty_desk }) [] 1 AllPorts side.own (Elsewhere 66) tt reads refl in
      let asking : LineController = met_controller line.controller side in
      let own : OwnShows node input p.adjacency (asked empty_desk AllPorts) p.met asking = record {
        side = h.own.side;
        next = λ e. refl;
        asked = subst (λ (t : Bool). AskedShows input t [] Unasked) (sym estab) refl;
        others = refl;
        met = sym met;
        phase = (tt, tt);
      } in
      reaches_by node input (asked_part node input (record p { desk = empty_desk }) AllPorts fits) (with_words line asking (xs ++ c ∷ [])) (with_words line asking (pool fits q (c ∷ replicate k.more c)))
      (goes_next (with_words line asking (xs ++ c ∷ [])) (with_words line asking (xs ++ c ∷ replicate k.more c)) (with_words line asking (pool fits q (c ∷ replicate k.more c)))
      (goes_to (with_words line asking (xs ++ c ∷ [])) (with_words line asking ((xs ++ c ∷ []) ++ replicate k.more c)) (with_words line asking (xs ++ c ∷ replicate k.more c))
      (again_each (with_words line asking xs) (AskOtherAgain 1) c (λ z. refl) k.more (xs ++ c ∷ []))
      (ap (λ (z : List ToSwitch). with_words line asking z) (append_assoc xs (c ∷ []) (replicate k.more c))))
      (lose_to_switch (with_words line asking xs) (pool_parts fits q xs (c ∷ replicate k.more c) part)))
      (sent_stands node input (record p { desk = empty_desk }) AllPorts fits (with_words line (begun_controller line.controller side) q) asking c own k h)

  -- the controller asks for all ports
  meets_line : (switch : Switch) (a : Acted) (line : Line) (side : SideByInstances) (silence : ℕ) (q xs : List ToSwitch)
      → a.controller.adjacency ≡ side_of (controller_of node) (switch_of node) side silence → is_estab side.state ≡ true → a.controller.has_met ≡ false → IsPart q xs → IsReadable (message_of [] 1 AllPorts)
      → Stands node input (record (part_at input switch a) { desk = empty_desk }) (with_words line (begun_controller line.controller side) q)
      → Reaches node input (part_at input switch (meets a)) AnyLine (with_words line (met_controller line.controller side) (xs ++ Copy side.own 1 (Elsewhere 66) ∷ []))
  meets_line switch a line side silence q xs adjacency estab met part reads h =
      let b : Acted = with_desk a empty_desk in
      let in_estab : is_estab a.controller.adjacency.state ≡ true = ap (λ (s : Side Party). is_estab s.state) adjacency ∙ estab in
      subst (λ (z : Acted). Reaches node input (part_at input switch z) AnyLine (with_words line (met_controller line.controller side) (xs ++ Copy side.own 1 (Elsewhere 66) ∷ [])))
      (sym (ap (λ (t : Bool). if t then asks_next b AllPorts else b) in_estab))
      (control_sent input switch (λ (z : Part). Reaches node input z AnyLine (with_words line (met_controller line.controller side) (xs ++ Copy side.own 1 (Elsewhere 66) ∷ [])))
      (with_desk b (asked empty_desk AllPorts)) default_channel (octets_of (message_of [] 1 AllPorts))
      (λ fits. met_line (part_at input switch a) line side q xs fits estab met part reads h))

  adjacency_stays : (switch : Switch) (a : Acted) (m : Message) → (says_gsmp a m).controller.adjacency ≡ a.controller.adjacency
  adjacency_stays switch a m = control_sent input switch (λ (q : Part). q.adjacency ≡ a.controller.adjacency) a default_channel (octets_of m) both
    where
      both : (fits : Bool) → (with_sent (part_at input switch a) default_channel (octets_of m) fits).adjacency ≡ a.controller.adjacency
      both true = refl
      both false = refl

  met_stays : (switch : Switch) (a : Acted) (m : Message) → (says_gsmp a m).controller.has_met ≡ a.controller.has_met
  met_stays switch a m = control_sent input switch (λ (q : Part). q.met ≡ a.controller.has_met) a default_channel (octets_of m) both
    where
      both : (fits : Bool) → (with_sent (part_at input switch a) default_channel (octets_of m) fits).met ≡ a.controller.has_met
      both true = refl
      both false = refl

  -- *What the side answers*: it is silent, says a greeting, and meets the switch on entering Estab
  abbrev answer_by : Bool → Party → SideByInstances → Reply → (s r : ℕ) → Acted → Acted
  answer_by enters key side found s r a = answers a (answer_at (controller_of node) (switch_of node) enters key side found s r)

  abbrev said_by_line : Line → SideByInstances → Reply → (s r : ℕ) → Line
  said_by_line line side found s r = say (record line { controller = record line.controller { adjacency = side } }) (spoken ControllerGreets found side s r)

  entering : (switch : Switch) (a : Acted) (line : Line) (key : Party) (side : SideByInstances) (silence : ℕ) (found : Reply) (s r : ℕ) → is_reset found ≡ false
      → is_estab side.state ≡ true → a.controller.has_met ≡ false → Reads (answer_at (controller_of node) (switch_of node) true key side found s r) → IsReadable (message_of [] 1 AllPorts)
      → Stands node input (part_at input switch a) line
      → let z : Acted = record a { controller = record a.controller { adjacency = side_of (controller_of node) (switch_of node) side silence } } in
      Reaches node input (part_at input switch (answer_by true key side found s r z)) AnyLine (meet (said_by_line line side found s r))
  entering switch a line key side silence Resets s r quiet estab met reads all h = absurd (cc quiet)
  entering switch a line key side silence Silent s r quiet estab met reads all h =
      let z : Acted = record a { controller = record a.controller { adjacency = side_of (controller_of node) (switch_of node) side silence } } in
      meets_line switch z line side silence line.to_switch (line.to_switch ++ []) refl estab met (pool_part false line.to_switch []) all (begun_stands (part_at input switch a) line side silence estab met h)
  entering switch a line key side silence (Says kind) s r quiet estab met reads all h =
      let z : Acted = record a { controller = record a.controller { adjacency = side_of (controller_of node) (switch_of node) side silence } } in
      let m : Message = said_of side kind s r in
      let w : ToSwitch = greeting ControllerGreets side kind s r in
      let begun : Part = record (part_at input switch a) { adjacency = side_of (controller_of node) (switch_of node) side silence; desk = empty_desk } in
      let stands : (q : List ToSwitch) × (IsPart q (line.to_switch ++ w ∷ []) × Stands node input (record (part_at input switch (says_gsmp z m)) { desk = empty_desk }) (with_words line (begun_controller line.controller side) q)) =
      control_sent input switch (λ (p : Part). (q : List ToSwitch) × (IsPart q (line.to_switch ++ w ∷ []) × Stands node input (record p { desk = empty_desk }) (with_words line (begun_controller line.controller side) q)))
      z default_channel (octets_of m)
      (λ fits. (
        pool fits line.to_switch (w ∷ []),
        (
          pool_part fits line.to_switch (w ∷ []),
          said_stands begun side kind s r fits (with_words line (begun_controller line.controller side) line.to_switch) reads (begun_stands (part_at input switch a) line side silence estab met h),
        ),
      )) in
      meets_line switch (says_gsmp z m) line side silence stands.0 (line.to_switch ++ w ∷ []) (adjacency_stays switch z m) estab (met_stays switch z m ∙ met) stands.1.0 all stands.1.1

  -- where Estab isn't entered
  sided : (p : Part) (line : Line) (side : SideByInstances) (silence : ℕ) → is_estab side.state ≡ is_estab line.controller.adjacency.state → Stands node input p line
      → Stands node input (record p { adjacency = side_of (controller_of node) (switch_of node) side silence }) (record line { controller = record line.controller { adjacency = side } })
  sided p line side silence same h = record {
    own = record {
      side = refl;
      next = λ e. h.own.next (sym same ∙ e);
      asked = subst (λ (t : Bool). AskedShows input t (own_of input p.desk.standing) line.controller.asked) (sym same) h.own.asked;
      others = h.own.others;
      met = h.own.met;
      phase = h.own.phase;
    };
    far = h.far;
    to_switch = h.to_switch;
    at_switch = h.at_switch;
    to_controller = h.to_controller;
    gathered = h.gathered;
    at_controller = h.at_controller;
    drawn = h.drawn;
    before = h.before;
    behind = h.behind;
    unmade = h.unmade;
    numbered = h.numbered;
  }

  staying : (switch : Switch) (a : Acted) (line : Line) (key : Party) (side : SideByInstances) (silence : ℕ) (found : Reply) (s r : ℕ) → is_reset found ≡ false
      → is_estab side.state ≡ is_estab line.controller.adjacency.state → Reads (answer_at (controller_of node) (switch_of node) false key side found s r)
      → Stands node input (part_at input switch a) line
      → let z : Acted = record a { controller = record a.controller { adjacency = side_of (controller_of node) (switch_of node) side silence } } in
      Reaches node input (part_at input switch (answer_by false key side found s r z)) AnyLine (said_by_line line side found s r)
  staying switch a line key side silence Resets s r quiet same reads h = absurd (cc quiet)
  staying switch a line key side silence Silent s r quiet same reads h =
      let z : Acted = record a { controller = record a.controller { adjacency = side_of (controller_of node) (switch_of node) side silence } } in
      silent_line (part_at input switch z) (record line { controller = record line.controller { adjacency = side } }) (sided (part_at input switch a) line side silence same h)
  staying switch a line key side silence (Says kind) s r quiet same reads h =
      let z : Acted = record a { controller = record a.controller { adjacency = side_of (controller_of node) (switch_of node) side silence } } in
      says_line switch z side kind s r (record line { controller = record line.controller { adjacency = side } }) reads (sided (part_at input switch a) line side silence same h)

  -- a reset is that of the node, whatever the side
  node_reset_line : (switch : Switch) (a : Acted) (line : Line) (side : Side Party) → side.own ≡ a.controller.adjacency.own → Stands node input (part_at input switch a) line
      → Reaches node input (part_at input switch (node_resets (record a { controller = record a.controller { adjacency = side } }))) AnyLine line
  node_reset_line switch a line side own h = reset_any node input switch a (record a { controller = record a.controller { adjacency = side } }) own refl line h

  -- *A greeting is heard*: it is the one message in hand
  abbrev pub with_hand : Line → List ToController → Line
  with_hand line words = record line { at_controller = words }

  answers_reset : (a : Acted) (enters : Bool) (key : Party) (side : SideByInstances) (found : Reply) (s r : ℕ) → is_reset found ≡ true → answer_by enters key side found s r a ≡ node_resets a
  answers_reset a true key side Resets s r is = refl
  answers_reset a false key side Resets s r is = refl
  answers_reset a enters key side Silent s r is = absurd (cc is)
  answers_reset a enters key side (Says kind) s r is = absurd (cc is)

  stepped : (switch : Switch) (a : Acted) (line : Line) (kind : HelloKind) (s r : ℕ) → IsReadable (message_of [] 1 AllPorts)
      → (is_estab a.controller.adjacency.state ≡ false → a.controller.has_met ≡ false)
      → let side : SideByInstances = line.controller.adjacency in
      let made : Step Party = step_by (controller_of node) (switch_of node) side a.controller.adjacency.silence (row_for side kind s r) s r in
      Reads (gsmp_answer made.answer) → Stands node input (part_at input switch a) (with_hand line [])
      → Reaches node input (part_at input switch (steps a made)) AnyLine (with_hand line (SwitchGreets kind s r ∷ []))
  stepped switch a line kind s r all unmet reads h =
      by_reset (is_reset found.reply) refl
    where
      side : SideByInstances
      side = line.controller.adjacency

      found : Row
      found = row_for side kind s r

      after : SideByInstances
      after = after_row side found s

      silence : ℕ
      silence = if found.clears_silence then 0 else a.controller.adjacency.silence

      made : Step Party
      made = step_by (controller_of node) (switch_of node) side a.controller.adjacency.silence found s r

      b : Line
      b = with_hand line []

      full : Line
      full = with_hand line (SwitchGreets kind s r ∷ [])

      state_is : is_estab a.controller.adjacency.state ≡ is_estab side.state
      state_is = line_estab h.own

      by_enters : (e : Bool) → enters side found ≡ e → is_reset found.reply ≡ false
          → Reads (answer_at (controller_of node) (switch_of node) e (controller_of node side.own) after found.reply s r)
          → Reaches node input (part_at input switch (answer_by e (controller_of node side.own) after found.reply s r (record a { controller = record a.controller { adjacency = side_of (controller_of node) (switch_of node) after silence } })))
          AnyLine (meet_on_entering e (said_by_line b after found.reply s r))
      by_enters true e quiet read =
          let parts : (is_estab side.state ≡ false) × (is_estab found.next ≡ true) = entered (is_estab side.state) (is_estab found.next) e in
          entering switch a b (controller_of node side.own) after silence found.reply s r quiet parts.1 (unmet (state_is ∙ parts.0)) read all h
      by_enters false e quiet read = staying switch a b (controller_of node side.own) after silence found.reply s r quiet
          (same_estab (is_estab side.state) (is_estab found.next) e (row_estab side.state kind _ _)) read h

      by_reset : (t : Bool) → is_reset found.reply ≡ t → Reaches node input (part_at input switch (steps a made)) AnyLine full
      by_reset true t = subst (λ (y : Acted). Reaches node input (part_at input switch y) AnyLine full)
          (sym (answers_reset (record a { controller = record a.controller { adjacency = made.side } }) (enters side found) (controller_of node side.own) after found.reply s r t))
          (reaches_behind node input (part_at input switch (node_resets (record a { controller = record a.controller { adjacency = made.side } }))) AnyLine full b (by_move full (LoseAtController 0) b refl)
          (node_reset_line switch a b made.side (ap (λ (y : Side Party). y.own) (sym h.own.side)) h))
      by_reset false t = reaches_behind node input (part_at input switch (steps a made)) AnyLine full (meet_on_entering (enters side found) (said_by_line b after found.reply s r))
          (by_move full ControllerTakes (meet_on_entering (enters side found) (said_by_line b after found.reply s r))
          (ap (λ (u : Bool). if u then reset_node b else meet_on_entering (enters side found) (said_by_line b after found.reply s r)) t))
          (by_enters (enters side found) refl t reads)

  pub greeted_line : (switch : Switch) (a : Acted) (line : Line) (g : Greeting) → is_own_greeting (switch_of node) (controller_of node) g ≡ true → IsReadable (message_of [] 1 AllPorts)
      → (is_estab a.controller.adjacency.state ≡ false → a.controller.has_met ≡ false) → Reads (gsmp_answer (gsmp_received a.controller.adjacency g).answer)
      → Stands node input (part_at input switch a) (with_hand line [])
      → Reaches node input (part_at input switch (steps a (gsmp_received a.controller.adjacency g))) AnyLine (with_hand line (SwitchGreets g.kind g.sender.instance.0 g.receiver.instance.0 ∷ []))
  greeted_line switch a line g own all unmet reads h =
      let side : SideByInstances = line.controller.adjacency in
      let kind : HelloKind = g.kind in
      let s : ℕ = g.sender.instance.0 in
      let r : ℕ = g.receiver.instance.0 in
      let made : gsmp_received a.controller.adjacency g ≡ step_by (controller_of node) (switch_of node) side a.controller.adjacency.silence (row_for side kind s r) s r =
      ap (λ (y : Side Party). gsmp_received y g) h.own.side
      ∙ (ap (gsmp_received (side_of (controller_of node) (switch_of node) side a.controller.adjacency.silence)) (greeting_is (switch_of node) (controller_of node) g own)
      ∙ gsmp_received_by_instances (controller_of node 0) (switch_of node 0) side a.controller.adjacency.silence kind s r) in
      subst (λ (y : Step Party). Reaches node input (part_at input switch (steps a y)) AnyLine (with_hand line (SwitchGreets kind s r ∷ []))) (sym made)
      (stepped switch a line kind s r all unmet (subst (λ (y : Step Party). Reads (gsmp_answer y.answer)) made reads) h)

  -- *A tick* of the adjacency: a reset of the node, or what the side says
  ticked_line : (switch : Switch) (a : Acted) (line : Line) (found : Reply)
      → tick_reply line.controller.adjacency.state (counted line.controller.adjacency.state a.controller.adjacency.silence) ≡ found
      → Reads (gsmp_answer (tick_by (controller_of node) (switch_of node) line.controller.adjacency a.controller.adjacency.silence found).answer) → Stands node input (part_at input switch a) line
      → Reaches node input (part_at input switch (steps a (tick_by (controller_of node) (switch_of node) line.controller.adjacency a.controller.adjacency.silence found))) AnyLine line
  ticked_line switch a line Resets is reads h = node_reset_line switch a line (side_of (controller_of node) (switch_of node) line.controller.adjacency a.controller.adjacency.silence)
      (ap (λ (y : Side Party). y.own) (sym h.own.side)) h
  ticked_line switch a line Silent is reads h =
      let side : SideByInstances = line.controller.adjacency in
      let silence : ℕ = counted side.state a.controller.adjacency.silence in
      reaches_behind node input (part_at input switch (steps a (tick_by (controller_of node) (switch_of node) side a.controller.adjacency.silence Silent))) AnyLine line (said_by_line line side Silent 0 0)
      (by_move line (ControllerTicks silence) (said_by_line line side Silent 0 0) (ap (tick_controller line) is))
      (staying switch a line (controller_of node 0) side silence Silent 0 0 refl refl reads h)
  ticked_line switch a line (Says kind) is reads h =
      let side : SideByInstances = line.controller.adjacency in
      let silence : ℕ = counted side.state a.controller.adjacency.silence in
      reaches_behind node input (part_at input switch (steps a (tick_by (controller_of node) (switch_of node) side a.controller.adjacency.silence (Says kind)))) AnyLine line (said_by_line line side (Says kind) 0 0)
      (by_move line (ControllerTicks silence) (said_by_line line side (Says kind) 0 0) (ap (tick_controller line) is))
      (staying switch a line (controller_of node 0) side silence (Says kind) 0 0 refl refl reads h)

  pub steps_tick_leads : (switch : Switch) (a : Acted) → Reads (gsmp_answer (ticked a.controller.adjacency).answer)
      → Leads node input (part_at input switch a) (part_at input switch (steps a (ticked a.controller.adjacency)))
  steps_tick_leads switch a reads line h =
      let side : SideByInstances = line.controller.adjacency in
      let made : ticked a.controller.adjacency ≡ tick_by (controller_of node) (switch_of node) side a.controller.adjacency.silence (tick_reply side.state (counted side.state a.controller.adjacency.silence)) =
      ap (λ (y : Side Party). ticked y) h.own.side ∙ ticked_by_instances (controller_of node) (switch_of node) side a.controller.adjacency.silence in
      subst (λ (y : Step Party). Reaches node input (part_at input switch (steps a y)) AnyLine line) (sym made)
      (ticked_line switch a line (tick_reply side.state (counted side.state a.controller.adjacency.silence)) refl (subst (λ (y : Step Party). Reads (gsmp_answer y.answer)) made reads) h)

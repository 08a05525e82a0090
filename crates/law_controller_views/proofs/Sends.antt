-- a controller sends: a frame is made, and stands in the queue or finds no slots; it says something to the line, or
-- nothing

use Rattle.std.proofs.Common.{◌≡◌, ◌≢◌, ℕ, ◌<◌, ◌≤◌, ◌+◌, Bool, true, false, List, [], ◌∷◌, ◌++◌, Option, None, Some, refl, sym, ◌∙◌, ap, ap₂, subst, arith, append_assoc, length, replicate, remove, zero, suc, if◌then◌else◌}
use Rattle.std.specs.Prelude.{nat_le, ◌==◌, ◌&&◌}
use Rattle.std.proofs.lemmas.Bool.Decides.{nat_tests}
use Rattle.law_controller_facts.specs.world_model.Words.{PortNo, Addr, Mark, Channel, channel_on_control, label_channel_of, is_label_channel, GivenOut, next_control, with_control, Cell, Frame, Loss, PoolFull, payload_of, noted, frame_cells, made, Action, Say, Ask, Note, CutChain, TakeBack, Withdraw, Work, Controller, Linked, linked_at, default_channel, sends_control, says_ifmp}
use Rattle.law_controller_facts.specs.world_model.ifmp_wire.declared.message.Message.{Message}
use Rattle.law_controller_facts.specs.world_model.frame_model.Sending.{Sender}
use Rattle.law_controller_facts.specs.ordered_lists.Ordered.{Every}
use Rattle.law_controller_facts.proofs.law_port_facts.Keyed.{on_both}
use Rattle.law_shown_cells.specs.law_label_line.Cells as lines
use Rattle.law_shown_cells.specs.law_label_line.Cells.{Role, Downstream, Upstream, Way, split, preceded, lost, ToSwitch}
use Rattle.law_shown_cells.specs.law_label_line.Line.{Line}
use Rattle.law_shown_cells.specs.law_label_line.Moves.{Move, Split, Lose, step, run}
use Rattle.law_controller_facts.specs.world_model.port_model.declared.action.Action.TheVariants.{Reset}
use Rattle.law_controller_facts.specs.world_model.Controller.{Acted, free_slots}
use Rattle.law_controller_facts.specs.world_model.Sending.{with_cells, sends}
use Rattle.law_shown_cells.specs.law_port_views.Link.{LinkLabel, other}
use Rattle.law_shown_cells.specs.law_port_views.Heard.{heard_by, framed, is_own, IsOwn, asked, asked_all}
use Rattle.law_shown_cells.specs.law_port_views.Shown.{Part, part_of, rest_of, ShownAt}
use Rattle.law_shown_cells.specs.Seen.{Unknown, IsUnmade, Extends}
use Rattle.law_shown_cells.specs.Label.{seen_message, seen_told, seen_packet, seen_payload, OnControl, ShowsCells, channel_at}
use Rattle.law_shown_cells.proofs.Shows.{shows_join, shows_behind}
use Rattle.law_shown_cells.proofs.Made.{extends_made, made_is, unmade_next, shows_more}
use Rattle.law_shown_cells.proofs.Frames.{frame_says, frame_quiet}
use Rattle.law_controller_views.specs.Ends.{way_to, with_way, working, End, Grows, EndGoes, EndLeads, Quietly}
use Rattle.law_controller_views.specs.Lifted.{IsProper, payload_by, IsReadable}
use Rattle.law_controller_views.proofs.Parts.{end_later}

-- *Moves on a queue of the line*: the sender's queue is another
abbrev pub with_sent : Role → List lines.Cell → Line → Line
with_sent to xs line = with_way to line (record (way_to to line) { to_switch = xs })

pub record Resends (to : Role) (line : Line) (xs : List lines.Cell) : Type 0 where
  pub moves : List Move
  pub is : run line moves ≡ with_sent to xs line

sent_twice : (to : Role) (xs ys : List lines.Cell) (line : Line) → with_sent to ys (with_sent to xs line) ≡ with_sent to ys line
sent_twice Downstream xs ys line = refl
sent_twice Upstream xs ys line = refl

sent_is : (to : Role) (xs : List lines.Cell) (line : Line) → (way_to to (with_sent to xs line)).to_switch ≡ xs
sent_is Downstream xs line = refl
sent_is Upstream xs line = refl

sent_same : (to : Role) (xs : List lines.Cell) (line : Line) → (way_to to line).to_switch ≡ xs → with_sent to xs line ≡ line
sent_same Downstream xs line e = ap (λ (z : List lines.Cell). record line { to_downstream = record (line.to_downstream) { to_switch = z } }) (sym e)
sent_same Upstream xs line e = ap (λ (z : List lines.Cell). record line { to_upstream = record (line.to_upstream) { to_switch = z } }) (sym e)

split_step : (to : Role) (place : ℕ) (line : Line) → step line (Split to place) ≡ with_sent to (preceded place (way_to to line).to_switch) line
split_step Downstream place line = refl
split_step Upstream place line = refl

lose_step : (to : Role) (place : ℕ) (line : Line) → step line (Lose to ToSwitch place) ≡ with_sent to (remove (way_to to line).to_switch place) line
lose_step Downstream place line = refl
lose_step Upstream place line = refl

preceded_at : (xs ys : List lines.Cell) (m : lines.Message) → preceded (length xs) (xs ++ (lines.Default true m ∷ ys)) ≡ xs ++ (lines.Default false m ∷ lines.Default true m ∷ ys)
preceded_at [] ys m = refl
preceded_at (x ∷ xs) ys m = ap (λ (z : List lines.Cell). x ∷ z) (preceded_at xs ys m)

removed_at : (xs ys : List lines.Cell) (x : lines.Cell) → remove (xs ++ (x ∷ ys)) (length xs) ≡ xs ++ ys
removed_at [] ys x = refl
removed_at (z ∷ xs) ys x = ap (λ (w : List lines.Cell). z ∷ w) (removed_at xs ys x)

-- a frame gets its other cells, or is lost
pub splits : (to : Role) (m : lines.Message) (n : ℕ) (xs ys : List lines.Cell) (line : Line) → (way_to to line).to_switch ≡ xs ++ (lines.Default true m ∷ ys)
    → Resends to line ((xs ++ (replicate n (lines.Default false m) ++ (lines.Default true m ∷ []))) ++ ys)
splits to m zero xs ys line e = record {
  moves = [];
  is = sym (sent_same to _ line (e ∙ sym (append_assoc xs (lines.Default true m ∷ []) ys)));
}
splits to m (suc n) xs ys line e =
    let first : List lines.Cell = xs ++ (lines.Default false m ∷ []) in
    let one : step line (Split to (length xs)) ≡ with_sent to (first ++ (lines.Default true m ∷ ys)) line = split_step to (length xs) line
    ∙ ap (λ (z : List lines.Cell). with_sent to z line) (ap (preceded (length xs)) e ∙ (preceded_at xs ys m ∙ sym (append_assoc xs (lines.Default false m ∷ []) (lines.Default true m ∷ ys)))) in
    let more : Resends to (with_sent to (first ++ (lines.Default true m ∷ ys)) line)
    ((first ++ (replicate n (lines.Default false m) ++ (lines.Default true m ∷ []))) ++ ys) = splits to m n first ys _ (sent_is to _ line) in
    record {
      moves = Split to (length xs) ∷ more.moves;
      is = ap (λ (z : Line). run z more.moves) one ∙ (more.is ∙ (sent_twice to _ _ line
          ∙ ap (λ (z : List lines.Cell). with_sent to (z ++ ys) line) (append_assoc xs (lines.Default false m ∷ []) (replicate n (lines.Default false m) ++ (lines.Default true m ∷ [])))));
    }

pub loses : (to : Role) (xs ys : List lines.Cell) (x : lines.Cell) (line : Line) → (way_to to line).to_switch ≡ xs ++ (x ∷ ys) → Resends to line (xs ++ ys)
loses to xs ys x line e = record {
  moves = Lose to ToSwitch (length xs) ∷ [];
  is = lose_step to (length xs) line ∙ ap (λ (z : List lines.Cell). with_sent to z line) (ap (λ (z : List lines.Cell). remove z (length xs)) e ∙ removed_at xs ys x);
}

-- *A frame is sent* or finds no slots
pub sent_cases : (P : Acted → Type 0) (a : Acted) (channel : Channel) (mark : Mark) (payload : List ℕ)
    → P (record a { controller = with_cells a.controller (frame_cells channel mark payload); notes = made a.notes mark payload })
    → P (record a { notes = noted (made a.notes mark payload) (Loss mark PoolFull) }) → P (sends a channel mark payload)
sent_cases P a channel mark payload p q = on_both (λ (s : Sender Controller). P (record a { controller = s.queues; notes = s.notes }))
    (nat_le (length (frame_cells channel mark payload)) (free_slots a.controller))
    (record { queues = with_cells a.controller (frame_cells channel mark payload); notes = made a.notes mark payload })
    (record { queues = a.controller; notes = noted (made a.notes mark payload) (Loss mark PoolFull) }) p q

-- *Which channel*: the default channels of ports, and the labels', differ from one another on the control link
apart_vpi : (a b : Channel) → a.vpi ≢ b.vpi → a ≢ b
apart_vpi a b n e = n (ap (λ (c : Channel). c.vpi) e)

apart_vci : (a b : Channel) → a.vci ≢ b.vci → a ≢ b
apart_vci a b n e = n (ap (λ (c : Channel). c.vci) e)

pub label_vci : (c : Channel) → is_label_channel c ≡ true → c.vci ≢ 15
label_vci c h = grind (arith, nat_tests, h)

pub label_vpi : (c : Channel) → is_label_channel c ≡ true → c.vpi < 16
label_vpi c h = grind (arith, nat_tests, h)

module _ (link : LinkLabel) (proper : IsProper link) (role : Role) where
  -- that of GSMP
  pub gsmp_default : default_channel ≢ channel_at (OnControl (link.port role)) default_channel
  gsmp_default = apart_vpi default_channel (channel_at (OnControl (link.port role)) default_channel) (λ e. absurd (omega (arith, e, proper.above role)))

  pub gsmp_label : default_channel ≢ channel_at (OnControl (link.port role)) (label_channel_of link.label)
  gsmp_label = apart_vpi default_channel (channel_at (OnControl (link.port role)) (label_channel_of link.label)) (λ e. absurd (omega (arith, e, proper.above role)))

  -- those of another port
  port_number : (q p : PortNo) → q ≢ p → q.0 ≢ p.0
  port_number q p n e = n (ap (λ (k : ℕ). record { 0 = k }) e)

  pub port_default : (q : PortNo) (c : Channel) → q ≢ link.port role → c.vpi < 16
      → channel_on_control q c ≢ channel_at (OnControl (link.port role)) default_channel
  port_default q c n low = apart_vpi (channel_on_control q c) (channel_at (OnControl (link.port role)) default_channel)
      (λ e. port_number q (link.port role) n (omega (arith, e, low)))

  pub port_label : (q : PortNo) (c : Channel) → q ≢ link.port role → c.vpi < 16
      → channel_on_control q c ≢ channel_at (OnControl (link.port role)) (label_channel_of link.label)
  port_label q c n low = apart_vpi (channel_on_control q c) (channel_at (OnControl (link.port role)) (label_channel_of link.label))
      (λ e. port_number q (link.port role) n (omega (arith, e, low, label_vpi (label_channel_of link.label) proper.label)))

-- *Quietly*: a frame that shows nothing to the line, under a mark under which nothing was made; a control frame
pub sent_quietly : (link : LinkLabel) (role : Role) (a : Acted) (numbers : GivenOut) (channel : Channel) (mark : Mark) (payload : List ℕ)
    → a.numbers.instances ≤ numbers.instances → (IsUnmade a.numbers.controls a.notes.frames → payload_of a.notes.frames mark ≡ None)
    → (IsUnmade a.numbers.controls a.notes.frames → IsUnmade numbers.controls (a.notes.frames ++ record { mark = mark; payload = payload } ∷ []))
    → ((frames : List Frame) → payload_of frames mark ≡ Some payload
    → ShowsCells (OnControl (link.port role)) role link frames (frame_cells channel mark payload) [])
    → Quietly link role a (sends (record a { numbers = numbers }) channel mark payload)
sent_quietly link role a numbers channel mark payload drawn free unmade quiet =
    sent_cases (Quietly link role a) (record a { numbers = numbers }) channel mark payload
    (record {
      grows = λ u. record { extends = extended u; instances = drawn; unmade = λ v. unmade v };
      found = refl;
      address = refl;
      queue = λ u words s. shows_behind (shows_more (OnControl (link.port role)) role link (extended u) s)
          (quiet (made a.notes mark payload).frames (made_is a.notes.frames mark payload));
    })
    (record {
      grows = λ u. record { extends = extended u; instances = drawn; unmade = λ v. unmade v };
      found = refl;
      address = refl;
      queue = λ u words s. shows_more (OnControl (link.port role)) role link (extended u) s;
    })
  where
    extended : IsUnmade a.numbers.controls a.notes.frames → Extends a.notes.frames (a.notes.frames ++ record { mark = mark; payload = payload } ∷ [])
    extended u = extends_made a.notes.frames mark payload (free u)

pub sends_quietly : (link : LinkLabel) (role : Role) (a : Acted) (channel : Channel) (payload : List ℕ)
    → ((frames : List Frame) → payload_of frames (next_control a.numbers) ≡ Some payload
    → ShowsCells (OnControl (link.port role)) role link frames (frame_cells channel (next_control a.numbers) payload) [])
    → Quietly link role a (sends_control a channel payload)
sends_quietly link role a channel payload quiet =
    sent_quietly link role a (with_control a.numbers) channel (next_control a.numbers) payload (omega arith) (λ u. u (a.numbers.controls + 1) (omega arith))
    (λ u. unmade_next a.numbers.controls a.notes.frames payload u) quiet

-- *A port's message* is sent
module _ (link : LinkLabel) (like : Type 0) (role : Role) where
  -- so each cell of the frame shows what the message is to the line
  same_address : (a b : Addr) → a ≡ b → (a.0 == b.0) ≡ true
  same_address a b e = grind (arith, nat_tests, ap (λ (z : Addr). z.0) e)

  told_seen : (address : Addr) (message : Message) (last : Bool) → address ≡ link.address role → is_own (link.address (other role)) message ≡ true
      → seen_told role link last (record { source = address; message = message }) ≡ seen_message last (heard_by role link.label message)
  told_seen address message last same own = ap (λ (b : Bool). if b then seen_message last (heard_by role link.label message) else Unknown)
      (ap₂ (λ (x y : Bool). x && y) (same_address address (link.address role) same) own)

  payload_seen : (address : Addr) (message : Message) (last : Bool) (o : Option (List ℕ)) → o ≡ Some (payload_by address message) → address ≡ link.address role
      → IsReadable address message → is_own (link.address (other role)) message ≡ true
      → seen_payload role link last o ≡ seen_message last (heard_by role link.label message)
  payload_seen address message last o made same reads own = ap (seen_payload role link last) made
      ∙ (ap (seen_packet role link last) reads ∙ told_seen address message last same own)

  -- what an end has sent, and the end once its queue is another
  pub sent_of : (queued : List lines.Cell) (w : Work) (line : Line) (r : Role) → ShownAt r link like queued w (part_of r line)
      → (way_to (other r) line).to_switch ≡ queued ++ asked_all r link.label w.actions
  sent_of queued w line Downstream s = s.sent
  sent_of queued w line Upstream s = s.sent

  own_of : (queued : List lines.Cell) (w : Work) (part : Part) (r : Role) → ShownAt r link like queued w part → Every (IsOwn (link.address (other r))) w.actions
  own_of queued w part Downstream s = s.own
  own_of queued w part Upstream s = s.own

  resent : (r : Role) (linked : Linked) (before after : List Action) (n : ℕ) (old new xs : List lines.Cell) (line : Line) → Every (IsOwn (link.address (other r))) after
      → xs ≡ new ++ asked_all r link.label after → ShownAt r link like old (working linked before n) (part_of r line)
      → ShownAt r link like new (working linked after n) (part_of r (with_sent (other r) xs line))
  resent Downstream linked before after n old new xs line own sent s = record {
    side = s.side;
    session = s.session;
    label = s.label;
    flow = s.flow;
    number = s.number;
    unspent = s.unspent;
    known = s.known;
    reassembled = s.reassembled;
    drawn = s.drawn;
    own = own;
    sent = sent;
  }
  resent Upstream linked before after n old new xs line own sent s = record {
    side = s.side;
    session = s.session;
    grant = s.grant;
    once = s.once;
    lent = s.lent;
    expected = s.expected;
    drawn = s.drawn;
    own = own;
    sent = sent;
  }

  resent_chain : (r : Role) (xs : List lines.Cell) (line : Line) → (way_to r (with_sent (other r) xs line)).chain ≡ (way_to r line).chain
  resent_chain Downstream xs line = refl
  resent_chain Upstream xs line = refl

  resent_rest : (r : Role) (xs : List lines.Cell) (line : Line) → rest_of r (with_sent (other r) xs line) ≡ rest_of r line
  resent_rest Downstream xs line = refl
  resent_rest Upstream xs line = refl

  -- the controller has this queue now, which shows these words, and asks the rest
  queued_end : (a b : Acted) (before after : List Action) (line : Line) (new xs : List lines.Cell) → Grows a b
      → linked_at b.controller (link.port role) ≡ linked_at a.controller (link.port role) → b.controller.address ≡ a.controller.address
      → ShowsCells (OnControl (link.port role)) role link b.notes.frames b.controller.queue new
      → Every (IsOwn (link.address (other role))) after → xs ≡ new ++ asked_all role link.label after
      → End link like role a.notes.frames a.numbers.instances a.controller before line
      → End link like role b.notes.frames b.numbers.instances b.controller after (with_sent (other role) xs line)
  queued_end a b before after line new xs grows found address queue own sent e =
      let later : End link like role b.notes.frames b.numbers.instances a.controller before line = end_later link like role line grows.extends grows.instances e in
      record {
        linked = later.linked;
        found = found ∙ later.found;
        port = later.port;
        address = address ∙ later.address;
        port_address = later.port_address;
        queued = new;
        queue = queue;
        shown = resent role later.linked before after b.numbers.instances later.queued new xs line own sent later.shown;
        taken = subst (ShowsCells (OnControl (link.port role)) (other role) link b.notes.frames later.linked.reassembly.chain) (sym (resent_chain role xs line)) later.taken;
      }

  -- by moves on the queue
  pub resends_goes : (a b : Acted) (before after : List Action) (line : Line) (new : List lines.Cell) → Grows a b
      → linked_at b.controller (link.port role) ≡ linked_at a.controller (link.port role) → b.controller.address ≡ a.controller.address
      → ShowsCells (OnControl (link.port role)) role link b.notes.frames b.controller.queue new
      → Every (IsOwn (link.address (other role))) after → Resends (other role) line (new ++ asked_all role link.label after)
      → End link like role a.notes.frames a.numbers.instances a.controller before line → EndGoes link like role a b after line
  resends_goes a b before after line new grows found address queue own r e = record {
    moves = r.moves;
    after = with_sent (other role) (new ++ asked_all role link.label after) line;
    is = r.is;
    end = queued_end a b before after line new (new ++ asked_all role link.label after) grows found address queue own refl e;
    rest = resent_rest role (new ++ asked_all role link.label after) line;
    grows = grows;
  }

  pub nothing_sent : (line : Line) (xs : List lines.Cell) → (way_to (other role) line).to_switch ≡ xs → Resends (other role) line xs
  nothing_sent line xs e = record { moves = []; is = sym (sent_same (other role) xs line e) }

  grows_same : (a : Acted) → Grows a a
  grows_same a = record { extends = record { kept = λ mark payload k. k }; instances = omega arith; unmade = λ h. h }

  -- what the port asks next, as a message or none
  pub record Asks (action : Action) : Type 0 where
    pub said : Option lines.Message
    pub is : asked role link.label action ≡ framed said

  abbrev asks : (action : Action) → Asks action
  asks (Say message) = record { said = heard_by role link.label message; is = refl }
  asks (Ask request needed) = record { said = None; is = refl }
  asks (Note item) = record { said = None; is = refl }
  asks (CutChain label) = record { said = None; is = refl }
  asks (TakeBack input output) = record { said = None; is = refl }
  asks (Withdraw input) = record { said = None; is = refl }
  asks Reset = record { said = None; is = refl }

  dropped : (line : Line) (queued rest : List lines.Cell) (said : Option lines.Message) → (way_to (other role) line).to_switch ≡ queued ++ (framed said ++ rest)
      → Resends (other role) line (queued ++ rest)
  dropped line queued rest None e = nothing_sent line (queued ++ rest) e
  dropped line queued rest (Some message) e = loses (other role) queued rest (lines.Default true message) line e

  sent_asked : (a : Acted) (action : Action) (out : List Action) (line : Line) (e : End link like role a.notes.frames a.numbers.instances a.controller (action ∷ out) line)
      → (way_to (other role) line).to_switch ≡ e.queued ++ (framed (asks action).said ++ asked_all role link.label out)
  sent_asked a action out line e = sent_of e.queued (working e.linked (action ∷ out) a.numbers.instances) line role e.shown
      ∙ ap (λ (z : List lines.Cell). e.queued ++ (z ++ asked_all role link.label out)) (asks action).is

  own_rest : (a : Acted) (action : Action) (out : List Action) (line : Line) → End link like role a.notes.frames a.numbers.instances a.controller (action ∷ out) line
      → Every (IsOwn (link.address (other role))) out
  own_rest a action out line e = (own_of e.queued (working e.linked (action ∷ out) a.numbers.instances) (part_of role line) role e.shown).1

  -- *What is asked isn't done*: a message is lost, anything else is nothing to the line
  pub undone_leads : (a : Acted) (action : Action) (out : List Action) → EndLeads link like role a (action ∷ out) a out
  undone_leads a action out unmade line e = resends_goes a a (action ∷ out) out line e.queued (grows_same a) refl refl e.queue (own_rest a action out line e)
      (dropped line e.queued (asked_all role link.label out) (asks action).said (sent_asked a action out line e)) e

  -- *A message is said*: its frame stands in the queue, or is lost for want of slots
  said_kept : (old frames : List Frame) (mark : Mark) (payload : List ℕ) (queue : List Cell) (queued : List lines.Cell) (said : Option lines.Message)
      → Extends old frames → ((last : Bool) → seen_payload role link last (payload_of frames mark) ≡ seen_message last said)
      → ShowsCells (OnControl (link.port role)) role link old queue queued → (line : Line) (rest : List lines.Cell)
      → (way_to (other role) line).to_switch ≡ queued ++ (framed said ++ rest)
      → (new : List lines.Cell)
      × ShowsCells (OnControl (link.port role)) role link frames (queue ++ frame_cells (channel_at (OnControl (link.port role)) default_channel) mark payload) new
      × Resends (other role) line (new ++ rest)
  said_kept old frames mark payload queue queued None h seen s line rest e = (
    queued,
    shows_behind (shows_more (OnControl (link.port role)) role link h s) (frame_quiet (OnControl (link.port role)) role link frames mark payload seen),
    nothing_sent line (queued ++ rest) e,
  )
  said_kept old frames mark payload queue queued (Some message) h seen s line rest e =
      let says = frame_says (OnControl (link.port role)) role link frames mark payload message seen in (
        queued ++ (replicate says.0 (lines.Default false message) ++ lines.Default true message ∷ []),
        shows_join (shows_more (OnControl (link.port role)) role link h s) says.1,
        splits (other role) message says.0 queued rest line e,
      )

  pub says_leads : (a : Acted) (port : PortNo) (message : Message) (out : List Action) → port ≡ link.port role → IsReadable (link.address role) message
      → EndLeads link like role a (Say message ∷ out) (says_ifmp port a message) out
  says_leads a port message out same reads unmade line e =
      subst (λ (q : PortNo). EndGoes link like role a (says_ifmp q a message) out line) (sym same)
      (sent_cases (λ (b : Acted). EndGoes link like role a b out line) (record a { numbers = with_control a.numbers }) (channel_at (OnControl (link.port role)) default_channel) mark payload
      (resends_goes a (record a { controller = with_cells a.controller (frame_cells (channel_at (OnControl (link.port role)) default_channel) mark payload); notes = made a.notes mark payload; numbers = with_control a.numbers })
      (Say message ∷ out) out line kept.0 (record { extends = extended; instances = omega arith; unmade = λ v. unmade_next a.numbers.controls a.notes.frames payload v })
      refl refl kept.1 (own_rest a (Say message) out line e) kept.2 e)
      (resends_goes a (record a { notes = noted (made a.notes mark payload) (Loss mark PoolFull); numbers = with_control a.numbers })
      (Say message ∷ out) out line e.queued (record { extends = extended; instances = omega arith; unmade = λ v. unmade_next a.numbers.controls a.notes.frames payload v })
      refl refl (shows_more (OnControl (link.port role)) role link extended e.queue) (own_rest a (Say message) out line e)
      (dropped line e.queued (asked_all role link.label out) (heard_by role link.label message) (sent_asked a (Say message) out line e)) e))
    where
      mark : Mark
      mark = next_control a.numbers

      payload : List ℕ
      payload = payload_by a.controller.address message

      frames : List Frame
      frames = a.notes.frames ++ record { mark = mark; payload = payload } ∷ []

      extended : Extends a.notes.frames frames
      extended = extends_made a.notes.frames mark payload (unmade (a.numbers.controls + 1) (omega arith))

      seen : (last : Bool) → seen_payload role link last (payload_of frames mark) ≡ seen_message last (heard_by role link.label message)
      seen last = payload_seen a.controller.address message last (payload_of frames mark) (made_is a.notes.frames mark payload) e.address
          (subst (λ (z : Addr). IsReadable z message) (sym e.address) reads)
          (own_of e.queued (working e.linked (Say message ∷ out) a.numbers.instances) (part_of role line) role e.shown).0

      kept : (new : List lines.Cell)
          × ShowsCells (OnControl (link.port role)) role link frames (a.controller.queue ++ frame_cells (channel_at (OnControl (link.port role)) default_channel) mark payload) new
          × Resends (other role) line (new ++ asked_all role link.label out)
      kept = said_kept a.notes.frames frames mark payload a.controller.queue e.queued (heard_by role link.label message) extended seen e.queue line (asked_all role link.label out)
          (sent_asked a (Say message) out line e)

-- a frame that makes a port ask one request: a label is wired, or a grant is made

use Rattle.std.proofs.Common.{◌≡◌, ℕ, ◌+◌, ◌≤◌, ◌<◌, Bool, true, false, not, List, [], ◌∷◌, ◌++◌, length, filter, fold, drop, Option, None, Some, refl, sym, ◌∙◌, ap, subst, arith, if◌then◌else◌}
use Rattle.std.specs.Prelude.{◌==◌}
use Rattle.std.specs.Option.{option_map}
use Rattle.std.proofs.lemmas.Bool.Decides.{nat_tests}
use Rattle.world_model.specs.Words.{PortNo, Mark, default_unwrapped, Addr, Redirect, label_channel_of, Request, AddBranch, Ask, is_estab, last_transaction, Desk, Standing, message_of, withdraws, label_end, control_end, is_in_range, at, Work, Controller, counts, hears, Action, Linked, port_key, linked_at, with_desk, begins, with_work, performs_in_estab, works_as, at_port, asks, asks_next, node_resets, sends_control, default_channel, forwards_packet, ifmp_holds, counted_at, packet_holds, default_holds, ForGsmp, ForDefault, ForLabel}
use Rattle.world_model.specs.Controller.{Acted}
use Rattle.world_model.specs.ifmp_wire.Fields.{decoded as ifmp_decoded}
use Rattle.world_model.specs.ifmp_wire.declared.message.Message.{Message}
use Rattle.world_model.specs.gsmp_wire.Layout.{octets_of}
use Rattle.world_model.specs.gsmp_wire.Fields.{decoded}
use Rattle.world_model.specs.port_model.Desk.{asked}
use Rattle.law_live_lasting.specs.law_port_facts.Port.{setup_port, IsLabelEnd}
use Rattle.law_live_lasting.proofs.law_port_facts.Keyed.{at_key, at_map}
use Rattle.law_live_lasting.specs.law_run_facts.law_world_views.Between.{setups_of}
use Rattle.law_live_labels.specs.Law.{makes_grant}
use Rattle.law_live_labels.proofs.Agreed.{grants_are_made}
use Rattle.law_live_lasting.specs.law_live_control.Calm.{HasLinks}
use Rattle.law_live_bound.specs.Law.{HoldsPacket}
use Rattle.law_live_lasting.proofs.law_live_others.Holding.{SameWork, forwards_same}
use Rattle.law_live_numbers.specs.Law.{work_at}
use Rattle.law_live_mirrors.specs.Mirrors.{standing_on}
use Rattle.law_live_mirrors.specs.Asking.{CanAsk, MayWire, KeepsMirrors, WorksPlainly}
use Rattle.law_live_mirrors.proofs.Nodes.{works_ask, at_port_is}
use Rattle.law_live_mirrors.proofs.Counting.{packets_keep_mirrors}
use Rattle.law_live_mirrors.proofs.Redirects.{grants_keep_mirrors}
use Rattle.law_live_lasting.specs.law_live_mirrored_worlds.Law.{Keeps}
use Rattle.law_live_lasting.proofs.law_live_mirrored_worlds.Events.{steps_keep}
use Rattle.law_live_asking.specs.Law.{PutsOne, of_label, of_grant, AsksFew, nothing, one}
use Rattle.law_live_asking.specs.Frames.{HoldsMessage, MakesGrant, MayWork, plainly, counts as counted, grants, FramesAskFew}
use Rattle.law_live_asking.proofs.Puts.{puts_same, puts_on, control_one, forwards_sent}
use Rattle.law_live_asking.proofs.Still.{still_then, still_asks, forwards_still, rule_still}
use Rattle.law_live_asking.proofs.Frames.{links_behind, default_still, label_frames_ask_none}
use Rattle.law_live_asking.proofs.Counting.{Asks, counting_asks}
use Rattle.law_live_asking.proofs.Counting as counting
use Rattle.law_live_asking.proofs.Told.{plain_messages_ask_none}

-- *A port asks one request*: its frame is put, where no loss is entered
below : (n last : ℕ) → n < last → (n == last) ≡ false
below n last less = grind (arith, nat_tests)

pub works_one : (b : Acted) (linked : Linked) (w : Work) (request : Request) (needed : Bool) → CanAsk b → w.actions ≡ Ask request needed ∷ []
    → length (works_as b linked w).notes.entries ≤ length b.notes.entries
    → PutsOne b.controller (works_as b linked w) (octets_of (message_of b.controller.desk.rows b.controller.desk.next request))
works_one b linked w request needed can is = subst (λ (x : Acted). length x.notes.entries ≤ length b.notes.entries → PutsOne b.controller x payload) (sym whole)
    (λ unlost. puts_on b.controller with_it.controller (sends_control with_it default_channel payload) payload (puts_same b.controller with_it.controller refl) (control_one with_it payload unlost))
  where
    begun : Acted
    begun = with_work b linked w

    with_it : Acted
    with_it = with_desk begun (asked begun.controller.desk request)

    payload : List ℕ
    payload = octets_of (message_of b.controller.desk.rows b.controller.desk.next request)

    whole : works_as b linked w ≡ sends_control with_it default_channel payload
    whole = ap (λ (done : List Action). fold (performs_in_estab linked.setup.port) begun done) is
        ∙ (ap (λ (t : Bool). if t then asks begun request else begun) can.up
        ∙ (ap (λ (t : Bool). if t then (if begun.controller.desk.next == last_transaction then node_resets begun else asks_next begun request) else begun) can.up
        ∙ ap (λ (t : Bool). if t then node_resets begun else asks_next begun request) (below b.controller.desk.next last_transaction can.number_left)))

-- *Which request it is*: the one that comes to stand
numbers_drawn : (requests : List Request) (desk : Desk) → (fold asked desk requests).next ≡ desk.next + length requests
numbers_drawn [] desk = omega arith
numbers_drawn (request ∷ requests) desk = (let rest : (fold asked (asked desk request) requests).next ≡ (desk.next + 1) + length requests = numbers_drawn requests (asked desk request) in omega (arith, rest))

not_empty : {A : Type 0} (xs : List A) (x : A) → [] ≡ xs ++ x ∷ [] → ⊥
not_empty [] x e = absurd (cc e)
not_empty (z ∷ xs) x e = absurd (cc e)

last_same : {A : Type 0} (xs ys : List A) (x y : A) → xs ++ x ∷ [] ≡ ys ++ y ∷ [] → x ≡ y
last_same [] [] x y e = cc
last_same {A} [] (z ∷ ys) x y e = absurd (not_empty ys y (ap (λ (l : List A). drop 1 l) e))
last_same {A} (z ∷ xs) [] x y e = absurd (not_empty xs x (sym (ap (λ (l : List A). drop 1 l) e)))
last_same {A} (z ∷ xs) (u ∷ ys) x y e = last_same xs ys x y (ap (λ (l : List A). drop 1 l) e)

one_known : (desk : Desk) (requests : List Request) (request : Request) → fold asked desk requests ≡ asked desk request → requests ≡ request ∷ []
one_known desk [] request e = absurd (none desk.next (ap (λ (d : Desk). d.next) e))
  where
    none : (n : ℕ) → n ≡ n + 1 → ⊥
    none n e = absurd (omega (arith, e))
one_known desk (r ∷ []) request e = ap (λ (x : Request). x ∷ []) (ap (λ (s : Standing). s.request)
    (last_same (left_over r) (left_over request) (record { number = desk.next; request = r }) (record { number = desk.next; request = request }) (ap (λ (d : Desk). d.standing) e)))
  where
    left_over : Request → List Standing
    left_over x = filter (λ (s : Standing). not (withdraws x s.request)) desk.standing
one_known desk (r ∷ (other ∷ requests)) request e = absurd (more desk.next (length requests) (sym (numbers_drawn requests (asked (asked desk r) other)) ∙ ap (λ (d : Desk). d.next) e))
  where
    more : (n k : ℕ) → ((n + 1) + 1) + k ≡ n + 1 → ⊥
    more n k e = absurd (omega (arith, e))

one_linked : (x y : Linked) → Some x ≡ Some y → x ≡ y
one_linked x y e = cc e

none_longer : {k m n : ℕ} → k ≤ m → m ≤ n → k ≤ n
none_longer p q = omega (arith, p, q)

-- *The channel of a label* of one of its ports
label_of : (c : Controller) (linked : Linked) (number : ℕ) → linked_at c linked.setup.port ≡ Some linked → is_in_range linked.setup number ≡ true → IsLabelEnd (setups_of c) (label_end linked.setup.port number)
label_of c linked number there in_range = record {
  setup = linked.setup;
  number = number;
  linked = at_map port_key setup_port (λ (l : Linked). l.setup) (λ l. refl) linked.setup.port.0 c.ports ∙ ap (λ (o : Option Linked). option_map (λ (l : Linked). l.setup) o) there;
  in_range = in_range;
  is = refl;
}

-- *A packet is counted*
module _ (a : Acted) (links : HasLinks a.controller) (linked : Linked) (mark : Mark) (packet : List ℕ) (may : MayWire a linked) where
  abbrev b : Acted
  b = forwards_packet a mark packet

  abbrev w : Work
  w = counts linked.setup b.controller.desk (begins b linked) packet

  abbrev after : Acted
  after = counted_at b linked.setup.port packet

  same : SameWork a b
  same = forwards_same a mark packet

  there : linked_at b.controller linked.setup.port ≡ Some linked
  there = ap (λ (ports : List Linked). at port_key linked.setup.port.0 ports) same.ports ∙ may.there

  may_behind : MayWire b linked
  may_behind = record {
    can = record {
      up = ap (λ side. is_estab side.state) same.adjacency ∙ may.can.up;
      number_left = subst (λ (d : Desk). d.next < last_transaction) (sym same.desk) may.can.number_left;
    };
    of_link = may.of_link;
    there = there;
    ascend = may.ascend;
    free = λ number spare. subst (λ (d : Desk). IsFreeOn d number) (sym same.desk) (may.free number spare);
  }
    where
      IsFreeOn : Desk → ℕ → Type 0
      IsFreeOn d number = standing_on d (label_end linked.setup.port number) ≡ []

  after_is : after ≡ works_as b linked w
  after_is = at_port_is b linked.setup.port (λ setup desk x. counts setup desk x packet) linked there

  counted_few : length after.notes.entries ≤ length a.notes.entries → AsksFew a.controller after
  counted_few unlost = by (counting_asks b linked there may.ascend packet)
    where
      by : Asks b linked w → AsksFew a.controller after
      by (counting.plainly is) = nothing (still_asks a after (still_then a.controller b.controller after.controller (forwards_still a mark packet links)
          (rule_still b linked.setup.port (λ setup desk x. counts setup desk x packet) (links_behind a b same links.ports)
          (λ l found. subst (λ (x : Linked). WorksPlainly b x (counts x.setup b.controller.desk (begins b x) packet)) (one_linked linked l (sym there ∙ found)) is))))
      by (counting.branches number in_range is) = one request (of_label (label_end linked.setup.port number) (label_of a.controller linked number may.there in_range)) (record {
        keeps = steps_keep.both a.controller b.controller after.controller [] (request ∷ []) (still_asks a b (forwards_still a mark packet links)).keeps (keeps (packets_keep_mirrors b linked packet may_behind));
        puts = subst (λ (d : Desk). PutsOne a.controller after (octets_of (message_of d.rows d.next request))) same.desk
            (puts_on a.controller b.controller after (octets_of (message_of b.controller.desk.rows b.controller.desk.next request)) (forwards_sent a mark links packet).puts
            (subst (λ (x : Acted). PutsOne b.controller x (octets_of (message_of b.controller.desk.rows b.controller.desk.next request))) (sym after_is)
            (works_one b linked w request false may_behind.can is (subst (λ (x : Acted). length x.notes.entries ≤ length b.notes.entries) after_is (none_longer unlost (forwards_sent a mark links packet).grown)))));
      })
        where
          request : Request
          request = AddBranch (label_end linked.setup.port number) (control_end linked.setup.port number)

          desk_is : after.controller.desk ≡ asked b.controller.desk request
          desk_is = ap (λ (x : Acted). x.controller.desk) after_is ∙ (works_ask b linked w request false may_behind.can is).desk

          keeps : KeepsMirrors b after → Keeps b.controller after.controller (request ∷ [])
          keeps k = subst (Keeps b.controller after.controller) (one_known b.controller.desk k.requests request (sym k.asks.desk ∙ desk_is)) (steps_keep.asks b after k.requests k.asks)

-- what a frame that holds it is to its port
packet_is : (a : Acted) (port : PortNo) (mark : Mark) (payload packet : List ℕ) → HoldsPacket payload packet → default_holds a port mark (default_unwrapped payload) ≡ counted_at (forwards_packet a mark packet) port packet
packet_is a port mark payload packet holds = ap (default_holds a port mark) holds.is
    ∙ (ap (packet_holds a port mark packet) holds.whole
    ∙ ap (λ (t : Bool). if t then ifmp_holds a port packet (ifmp_decoded (drop 20 packet)) else counted_at (forwards_packet a mark packet) port packet) holds.no_message)

-- *A grant is made*
message_is : (a : Acted) (port : PortNo) (mark : Mark) (payload : List ℕ) (source : Addr) (message : Message) → HoldsMessage payload source message
    → default_holds a port mark (default_unwrapped payload) ≡ at_port a port (λ setup desk w. hears setup desk w source message)
message_is a port mark payload source message holds = ap (default_holds a port mark) holds.is
    ∙ (ap (packet_holds a port mark holds.packet) holds.whole
    ∙ (ap (λ (t : Bool). if t then ifmp_holds a port holds.packet (ifmp_decoded (drop 20 holds.packet)) else counted_at (forwards_packet a mark holds.packet) port holds.packet) holds.of_protocol
    ∙ (ap (ifmp_holds a port holds.packet) holds.read
    ∙ ap (λ (from : Addr). at_port a port (λ setup desk w. hears setup desk w from message)) holds.from)))

module _ (a : Acted) (linked : Linked) (payload : List ℕ) (g : MakesGrant a linked payload) where
  abbrev redirect : Message
  redirect = Redirect g.sender g.peer g.number g.lifetime (label_channel_of g.label) g.flow

  abbrev granted : Acted
  granted = at_port a linked.setup.port (λ setup desk w. hears setup desk w g.source redirect)

  granted_is : granted ≡ works_as a linked (makes_grant linked.setup (begins a linked) g.session g.number g.label g.lifetime g.flow)
  granted_is = at_port_is a linked.setup.port (λ setup desk w. hears setup desk w g.source redirect) linked g.takes.there
      ∙ ap (works_as a linked) (grants_are_made linked.setup a.controller.desk (begins a linked) g.session g.source g.sender g.peer g.number g.label g.lifetime g.flow g.takes.taken g.spare g.few g.room)

  granted_few : length granted.notes.entries ≤ length a.notes.entries → AsksFew a.controller granted
  granted_few unlost = one request (of_grant (label_end linked.setup.port g.label) (label_of a.controller linked g.label g.takes.there g.takes.taken.in_range)) (record {
    keeps = steps_keep.asks a granted (request ∷ [])
        (grants_keep_mirrors a linked g.session g.source g.sender g.peer g.number g.label g.lifetime g.flow g.takes g.spare g.few g.room g.free);
    puts = subst (λ (x : Acted). PutsOne a.controller x (octets_of (message_of a.controller.desk.rows a.controller.desk.next request))) (sym granted_is)
        (works_one a linked (makes_grant linked.setup (begins a linked) g.session g.number g.label g.lifetime g.flow) request false g.takes.can refl
        (subst (λ (x : Acted). length x.notes.entries ≤ length a.notes.entries) granted_is unlost));
  })
    where
      request : Request
      request = AddBranch (control_end linked.setup.port g.label) (label_end linked.setup.port g.label)

-- *The whole*
module _ (a : Acted) (links : HasLinks a.controller) (mark : Mark) (payload : List ℕ) where
  abbrev Few : Acted → Type 0
  Few x = length x.notes.entries ≤ length a.notes.entries → AsksFew a.controller x

  work_few : (linked : Linked) → MayWork a linked payload → linked_at a.controller linked.setup.port ≡ Some linked → Few (default_holds a linked.setup.port mark (default_unwrapped payload))
  work_few linked (plainly is) own = λ unlost. nothing (still_asks a (default_holds a linked.setup.port mark (default_unwrapped payload))
      (default_still a links mark linked.setup.port (default_unwrapped payload)
      (λ l found. subst (λ (x : Linked). WorksPlainly a x (work_at a x (default_unwrapped payload))) (one_linked linked l (sym own ∙ found)) is)))
  work_few linked (counted packet holds may) own = subst Few (sym (packet_is a linked.setup.port mark payload packet holds)) (counted_few a links linked mark packet may)
  work_few linked (grants g) own = subst Few (sym (message_is a linked.setup.port mark payload g.source (redirect a linked payload g) g.holds)) (granted_few a linked payload g)

  default_few : (port : PortNo) → ((linked : Linked) → linked_at a.controller port ≡ Some linked → MayWork a linked payload) → Few (default_holds a port mark (default_unwrapped payload))
  default_few port may = by (linked_at a.controller port) refl
    where
      by : (o : Option Linked) → linked_at a.controller port ≡ o → Few (default_holds a port mark (default_unwrapped payload))
      by None found = λ unlost. nothing (still_asks a (default_holds a port mark (default_unwrapped payload)) (default_still a links mark port (default_unwrapped payload)
          (λ l there. absurd (cc (sym found ∙ there)))))
      by (Some linked) found = subst (λ (p : PortNo). Few (default_holds a p mark (default_unwrapped payload))) (λ i. record { 0 = own i })
          (work_few linked (may linked found) (subst (λ n. at port_key n a.controller.ports ≡ Some linked) (sym own) found))
        where
          own : linked.setup.port.0 ≡ port.0
          own = at_key port_key port.0 a.controller.ports linked found

pub frames_ask_few : FramesAskFew
frames_ask_few a ForGsmp mark payload links may unlost = nothing (plain_messages_ask_none a (decoded payload) mark payload links refl may)
frames_ask_few a (ForDefault q) mark payload links may unlost = default_few a links mark payload q.setup.port may unlost
frames_ask_few a (ForLabel q label) mark payload links may unlost = nothing (label_frames_ask_none a q label mark payload links)

-- the ACK of a port can be written, and the REDIRECT of each of its labels that is due

use Rattle.std.proofs.Common.{◌≡◌, ℕ, suc, ◌+◌, ◌≤◌, ◌<◌, ◌^◌, ◌&&◌, Bool, true, false, List, [], ◌∷◌, length, Option, None, Some, refl, subst, arith, if◌then◌else◌}
use Rattle.std.specs.Option.{option_map_or}
use Rattle.std.proofs.lemmas.Bool.Decides.{nat_tests}
use Rattle.world_model.specs.Words.{PortNo, Instance, Peer, Side, Ack, hello_of, said, IsFlow, is_label_number, label_channel_of, last_number, own_instance, redirect, Setup, Label, labels_of, Session, Controller, Linked, linked_at, port_key}
use Rattle.world_model.specs.port_model.Saying.{peer_instance}
use Rattle.world_model.specs.port_model.declared.action.Action.TheVariants.{Say}
use Rattle.world_model.specs.ifmp_wire.declared.message.Message.TheVariants.{Adjacency}
use Rattle.law_live_journeys.specs.law_port_facts.ordered_lists.Ordered.{Every}
use Rattle.law_live_journeys.specs.law_port_facts.Port.{HasFlows, IsRanged}
use Rattle.law_live_journeys.proofs.law_port_facts.ordered_lists.Every.{every_map, every_unmapped}
use Rattle.law_live_journeys.proofs.law_port_facts.Keyed.{at_every}
use Rattle.law_live_journeys.specs.law_run_facts.law_world_views.Between.{setups_of}
use Rattle.law_live_journeys.specs.law_run_facts.law_world_views.law_controller_views.Ready.{IsReady, IsReadyPort}
use Rattle.law_live_journeys.specs.law_run_facts.law_world_views.law_port_widths.Widths.{FitsPeer, FitsStored, FitsLabel}
use Rattle.law_live_journeys.specs.law_live_ticks.Law.{is_due, redirects, ticked_on}
use Rattle.law_live_journeys.specs.law_live_nodes.Law.{idle_work, told_by, messages_of}
use Rattle.law_live_journeys.specs.law_live_links.Law.{EndOfLink, number_of, IsHeld, AreAgreed}
use Rattle.law_live_journeys.specs.law_live_worlds.Law.{end_of}
use Rattle.law_live_journeys.specs.law_live_going.Law.{IsWritten}
use Rattle.law_live_ease.specs.Written.{MessagesAreWritten}

-- *The peer* that a port has stored, if any, as it is written
peer_low : (stored : Option Peer) → FitsStored stored → (option_map_or (λ (peer : Peer). peer.instance) stored (record { 0 = 0 })).0 < 2 ^ 32
peer_low None fits = omega arith
peer_low (Some peer) fits = fits.0

instance_low : (stored : Option Peer) → FitsStored stored → option_map_or (λ (peer : Peer). peer.instance.0) stored 0 < 2 ^ 32
instance_low None fits = omega arith
instance_low (Some peer) fits = fits.0

address_low : (stored : Option Peer) → FitsStored stored → option_map_or (λ (peer : Peer). peer.address.0) stored 0 < 2 ^ 32
address_low None fits = omega arith
address_low (Some peer) fits = fits.1

-- *The ACK*
ack_written : (side : Side Peer) (expected : ℕ) → FitsPeer side.own → FitsStored side.stored → expected < 2 ^ 32 → IsWritten (Adjacency (hello_of expected (said side Ack)))
ack_written side expected own stored low = record {
  range = tt;
  fits = ((own.0, instance_low side.stored stored, address_low side.stored stored), low);
}

-- *The channel of a label*
first : (a b : Bool) → (a && b) ≡ true → a ≡ true
first true b e = refl
first false b e = absurd (cc e)

low_vpi : (n : ℕ) → is_label_number n ≡ true → (label_channel_of n).vpi < 2 ^ 8
low_vpi n is = grind (arith, nat_tests)

low_vci : (n : ℕ) → is_label_number n ≡ true → (label_channel_of n).vci < 2 ^ 16
low_vci n is = grind (arith, nat_tests)

-- *REDIRECTs* under numbers that are left, of labels in range
abbrev IsNumbered : Label → Type 0
IsNumbered label = is_label_number label.number ≡ true

module _ (setup : Setup) (own peer : Instance) (lives : 1 ≤ setup.timers.lifetime) (lifetime : setup.timers.lifetime < 2 ^ 16) (own_low : own.0 < 2 ^ 32)
    (far_low : peer.0 < 2 ^ 32) where
  redirect_written : (label : Label) (number : ℕ) → IsNumbered label → IsFlow label.flow → FitsLabel label → number < 2 ^ 32 → IsWritten (redirect setup label own peer number)
  redirect_written label number numbered flow fits low = record {
    range = (lives, low_vpi label.number numbered, flow);
    fits = ((own_low, far_low, low), lifetime, low_vci label.number numbered, fits);
  }

  redirects_written : (labels : List Label) (number : ℕ) → Every IsNumbered labels → Every (λ (label : Label). IsFlow label.flow) labels → Every FitsLabel labels
      → number + length labels ≤ last_number → Every IsWritten (told_by (redirects setup own peer number labels))
  redirects_written [] number numbered flows fits left = tt
  redirects_written (label ∷ labels) number numbered flows fits left =
      by (is_due setup label) (redirects_written labels (number + 1) numbered.1 flows.1 fits.1 (one_more number (length labels) left))
      (redirects_written labels number numbered.1 flows.1 fits.1 (as_many number (length labels) left))
    where
      low : (n k : ℕ) → n + suc k ≤ 4294967295 → n < 2 ^ 32
      low n k left = omega (arith, left)

      one_more : (n k : ℕ) → n + suc k ≤ 4294967295 → (n + 1) + k ≤ 4294967295
      one_more n k left = omega (arith, left)

      as_many : (n k : ℕ) → n + suc k ≤ 4294967295 → n + k ≤ 4294967295
      as_many n k left = omega (arith, left)

      by : (due : Bool) → Every IsWritten (told_by (redirects setup own peer (number + 1) labels)) → Every IsWritten (told_by (redirects setup own peer number labels))
          → Every IsWritten (told_by (if due then Say (redirect setup label own peer number) ∷ redirects setup own peer (number + 1) labels else redirects setup own peer number labels))
      by true behind skipped = (redirect_written label number numbered.0 flows.0 fits.0 (low number (length labels) left), behind)
      by false behind skipped = skipped

-- *What a port says* of a controller whose numbers fit
module _ (c : Controller) (ready : IsReady (setups_of c) c) (port : PortNo) (linked : Linked) (found : linked_at c port ≡ Some linked) where
  own : IsReadyPort linked
  own = at_every port_key IsReadyPort port.0 c.ports linked ready.ports found

  timed : IsRanged linked.setup
  timed = at_every port_key (λ (l : Linked). IsRanged l.setup) port.0 c.ports linked (every_unmapped (λ (l : Linked). l.setup) IsRanged c.ports ready.ranged) found

  flows : HasFlows linked.port
  flows = at_every port_key (λ (l : Linked). HasFlows l.port) port.0 c.ports linked ready.flows found

  in_session : (s : Session) → linked.port.session ≡ Some s → Every IsNumbered s.labels → s.number + length s.labels ≤ last_number
      → Every IsWritten (told_by (ticked_on linked.setup (idle_work linked) s).actions)
  in_session s is_open numbered left = (
    ack_written linked.port.adjacency s.expected own.fits.own own.fits.stored
        (subst (λ (o : Option Session). option_map_or (λ (t : Session). t.expected) o 1 < 2 ^ 32) is_open own.fits.expected),
    redirects_written linked.setup (own_instance linked.port.adjacency) (peer_instance linked.port.adjacency) timed.lifetime own.setup.lifetime own.fits.own.0
        (peer_low linked.port.adjacency.stored own.fits.stored) s.labels s.number numbered
        (subst (λ (o : Option Session). Every (λ (label : Label). IsFlow label.flow) (option_map_or (λ (t : Session). t.labels) o [])) is_open flows.labels)
        (subst (λ (o : Option Session). Every FitsLabel (option_map_or (λ (t : Session). t.labels) o [])) is_open own.fits.labels) left,
  )

  abbrev said_in : Option Session → Type 0
  said_in o = Every IsWritten (option_map_or (λ (s : Session). told_by (ticked_on linked.setup (idle_work linked) s).actions) o [])

  port_says : Every IsNumbered (labels_of linked.port) → number_of linked.port + length (labels_of linked.port) ≤ last_number → Every IsWritten (messages_of linked)
  port_says numbered left = by linked.port.session refl
    where
      by : (o : Option Session) → linked.port.session ≡ o → said_in o
      by None none = tt
      by (Some s) is_open = in_session s is_open
          (subst (λ (o : Option Session). Every IsNumbered (option_map_or (λ (t : Session). t.labels) o [])) is_open numbered)
          (subst (λ (o : Option Session). option_map_or (λ (t : Session). t.number) o 0 + length (option_map_or (λ (t : Session). t.labels) o []) ≤ last_number) is_open left)

-- *The labels of an end that agrees* are label numbers: the other end holds them
all_numbered : (one other : EndOfLink) → AreAgreed one other → Every IsNumbered (labels_of one.port)
all_numbered one other agreed =
    every_map (IsHeld one.setup.timers other.setup other.port.grants one.said) IsNumbered (labels_of one.port)
    (λ label held. first (is_label_number label.number) _ held.in_range) agreed.there.labels

pub messages_are_written : MessagesAreWritten
messages_are_written policy topology events one far run addresses world agree may =
    port_says agree.shows.site.controller (world.ready one.node agree.shows.site agree.shows.there).controller one.port agree.linked agree.shows.of_port
    (all_numbered (end_of agree.linked []) (end_of agree.far_linked []) agree.agreed) may.numbers

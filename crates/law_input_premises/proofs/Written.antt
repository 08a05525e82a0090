-- what a controller asks of its switch: each number has its field's width, and each field that a message has no use for is 0

use Rattle.std.proofs.Common.{◌≡◌, ℕ, ◌<◌, ◌≤◌, ◌^◌, Bool, true, false, List, [], ◌∷◌, Option, None, Some, refl, subst, arith, is_some, inl, inr, if◌then◌else◌}
use Rattle.std.specs.Prelude.{◌==◌}
use Rattle.std.specs.Option.{option_map_or}
use Rattle.std.proofs.lemmas.Bool.Decides.{nat_tests}
use Rattle.law_controller.specs.world_model.Words.{Channel, End, PortNo, is_label_channel, IsLinkPort, FitsChannel, FitsRows, Fits, Request, AddBranch, MoveBranch, DeleteTree, PortRow, at, session_of, message_of, Setup, home_of}
use Rattle.law_controller.specs.world_model.gsmp_wire.declared.message.Message.{Message}
use Rattle.law_controller.specs.world_model.gsmp_wire.declared.request.Request.TheVariants.{DeleteAll, AllPorts}
use Rattle.law_gsmp_reading.specs.Said.{asks, no_branch, all_asked, IsSaid}
use Rattle.law_controller.specs.ordered_lists.Ordered.{Every}
use Rattle.law_controller.specs.world_model.port_model.Messages.{row_of}
use Rattle.law_controller.specs.law_port_facts.Port.{setup_port, IsLabelEnd, IsLinked, IsDefaultEnd, IsShaped, asks_ports, empties_control, empties_port, opens_input, opens_output, leads_label, leads_grant, joins_label, parts_label, frees_label}
use Rattle.law_controller.proofs.law_port_facts.Keyed.{at_key, at_every}
use Rattle.law_controller.proofs.law_controller_facts.Conditions.{of_label, label_has_home}
use Rattle.law_controller.proofs.Ordering.{same_number}

-- *As it is said*: the numbers have their fields' widths, and what it has no use for is 0
abbrev pub IsWritten : Message → Type 0
IsWritten m = Fits m × IsSaid m

pub written : (m : Message) → Fits m → IsSaid m → IsWritten m
written m fits said = (fits, said)

-- *Ends* that a controller names
record IsSmall (e : End) : Type 0 where
  port : e.port.0 ≤ 8
  vpi : e.channel.vpi < 256
  vci : e.channel.vci < 1024

small_channel : (e : End) → IsSmall e → FitsChannel e.channel
small_channel e s = record { vpi = omega (arith, s.vpi); vci = omega (arith, s.vci) }

small_port : (e : End) → IsSmall e → e.port.0 < 2 ^ 32
small_port e s = omega (arith, s.port)

record IsNarrow (e : End) : Type 0 where
  port : e.port.0 ≤ 8
  vpi : e.channel.vpi < 16
  vci : e.channel.vci < 1024

narrow_small : (e : End) → IsNarrow e → IsSmall e
narrow_small e n = record { port = n.port; vpi = omega (arith, n.vpi); vci = n.vci }

home_small : (e : End) → IsNarrow e → IsSmall (home_of e)
home_small e n = record { port = omega arith; vpi = omega (arith, n.port, n.vpi); vci = n.vci }

label_vci : (channel : Channel) → is_label_channel channel ≡ true → channel.vci < 1024
label_vci channel is = grind (arith, nat_tests)

module _ (setups : List Setup) (links : Every (λ (setup : Setup). IsLinkPort setup.port) setups) where
  linked_few : (port : PortNo) → IsLinked setups port → port.0 ≤ 8
  linked_few port linked = by_setup (at setup_port port.0 setups) refl linked
    where
      by_setup : (o : Option Setup) → at setup_port port.0 setups ≡ o → is_some o ≡ true → port.0 ≤ 8
      by_setup None found is = absurd (cc is)
      by_setup (Some setup) found is = (subst IsLinkPort (same_number setup.port port (at_key setup_port port.0 setups setup found))
          (at_every setup_port (λ (s : Setup). IsLinkPort s.port) port.0 setups setup links found)).1

  label_narrow : (e : End) → IsLabelEnd setups e → IsNarrow e
  label_narrow e is = (let home = label_has_home setups e links is in record { port = home.most; vpi = home.vpi; vci = label_vci e.channel (of_label setups e is) })

  default_narrow : (e : End) → IsDefaultEnd setups e → IsNarrow e
  default_narrow e is = record {
    port = elim is.port [ inl none ↦ omega (arith, none) | inr linked ↦ linked_few e.port linked ];
    vpi = omega (arith, is.vpi);
    vci = omega (arith, is.vci);
  }

  -- *Sessions*
  session_fits : (rows : List PortRow) (port : PortNo) → FitsRows rows → session_of rows port < 2 ^ 32
  session_fits [] port fits = omega arith
  session_fits (row ∷ rows) port fits = by_test (row.port == port.0) (session_fits rows port fits.1)
    where
      by_test : (b : Bool) → session_of rows port < 2 ^ 32 → option_map_or (λ (r : PortRow). r.session) (if b then Some row else row_of rows port) 0 < 2 ^ 32
      by_test true rest = fits.0.session
      by_test false rest = rest

  -- *Requests*
  add_written : (rows : List PortRow) (n : ℕ) (i o : End) → FitsRows rows → n < 2 ^ 32 → IsSmall i → IsSmall o → IsWritten (message_of rows n (AddBranch i o))
  add_written rows n i o fits less small also = written (message_of rows n (AddBranch i o))
      (omega arith, omega arith, less, session_fits rows i.port fits, small_port i small, small_channel i small, small_port o also, small_channel o also, omega arith, omega arith) (asks, no_branch 2, tt)

  move_written : (rows : List PortRow) (n : ℕ) (i from to : End) → FitsRows rows → n < 2 ^ 32 → IsSmall i → IsSmall from → IsSmall to → IsWritten (message_of rows n (MoveBranch i from to))
  move_written rows n i from to fits less small first last = written (message_of rows n (MoveBranch i from to))
      (omega arith, omega arith, less, session_fits rows i.port fits, small_port i small, small_channel i small, small_port from first, small_channel from first, small_port to last, small_channel to last, omega arith, omega arith)
      (asks, no_branch 2)

  free_written : (rows : List PortRow) (n : ℕ) (i : End) → FitsRows rows → n < 2 ^ 32 → IsSmall i → IsWritten (message_of rows n (DeleteTree i))
  free_written rows n i fits less small = written (message_of rows n (DeleteTree i))
      (omega arith, omega arith, less, session_fits rows i.port fits, small_port i small, small_channel i small, omega arith, record { vpi = omega arith; vci = omega arith }, omega arith, omega arith) (asks, no_branch 2, (refl, refl))

  all_written : (rows : List PortRow) (n : ℕ) (port : PortNo) → FitsRows rows → n < 2 ^ 32 → port.0 ≤ 8 → IsWritten (message_of rows n (DeleteAll port))
  all_written rows n port fits less few = written (message_of rows n (DeleteAll port))
      (omega arith, omega arith, less, session_fits rows port fits, omega (arith, few), record { vpi = omega arith; vci = omega arith }, omega arith, record { vpi = omega arith; vci = omega arith }, omega arith, omega arith)
      (asks, no_branch 2, ((refl, refl), refl))

  pub ports_written : (rows : List PortRow) (n : ℕ) → n < 2 ^ 32 → IsWritten (message_of rows n AllPorts)
  ports_written rows n less = written (message_of rows n AllPorts) (omega arith, omega arith, less, omega arith, tt) (asks, all_asked)

  pub are_written : (rows : List PortRow) (n : ℕ) (request : Request) → FitsRows rows → n < 2 ^ 32 → IsShaped setups request → IsWritten (message_of rows n request)
  are_written rows n request fits less asks_ports = ports_written rows n less
  are_written rows n request fits less (empties_control port none) = all_written rows n port fits less (omega (arith, none))
  are_written rows n request fits less (empties_port port linked) = all_written rows n port fits less (linked_few port linked)
  are_written rows n request fits less (opens_input e d) = add_written rows n e (home_of e) fits less (narrow_small e (default_narrow e d)) (home_small e (default_narrow e d))
  are_written rows n request fits less (opens_output e d) = add_written rows n (home_of e) e fits less (home_small e (default_narrow e d)) (narrow_small e (default_narrow e d))
  are_written rows n request fits less (leads_label e l) = add_written rows n e (home_of e) fits less (narrow_small e (label_narrow e l)) (home_small e (label_narrow e l))
  are_written rows n request fits less (leads_grant e l) = add_written rows n (home_of e) e fits less (home_small e (label_narrow e l)) (narrow_small e (label_narrow e l))
  are_written rows n request fits less (joins_label i o l k) = move_written rows n i (home_of i) o fits less (narrow_small i (label_narrow i l)) (home_small i (label_narrow i l)) (narrow_small o (label_narrow o k))
  are_written rows n request fits less (parts_label i o l k) = move_written rows n i o (home_of i) fits less (narrow_small i (label_narrow i l)) (narrow_small o (label_narrow o k)) (home_small i (label_narrow i l))
  are_written rows n request fits less (frees_label e l) = free_written rows n e fits less (narrow_small e (label_narrow e l))

-- the switch refuses a command exactly where the plain machine does, and for the same cause

use Rattle.std.proofs.Common.{◌≡◌, ℕ, ◌≤◌, Bool, true, false, cond, not, List, [], ◌∷◌, Option, None, Some, is_none, refl, ap}
use Rattle.std.specs.List.{list_all}
use Rattle.world_model.specs.Words.{PortNo, End, is_link_channel, is_connectable, Branches, Request, AddBranch, MoveBranch, DeleteTree, VerifyTree, PortManagement, session_of, named_ends, named_ports, used_ports, names_session, leads_elsewhere, is_last_session, has_port, numbers_of}
use Rattle.world_model.specs.gsmp_wire.declared.request.Request.TheVariants.{DeleteAll, AllPorts}
use Rattle.ordered_lists.specs.Ordered.{Every}
use Rattle.world_model.specs.switch_model.declared.request.Asked.{Asked}
use Rattle.world_model.specs.gsmp_wire.declared.failure.Failure.TheVariants.{NoPort, BadSession, PortDown, OutOfRange, Busy, NoConnection, SessionsSpent}
use Rattle.world_model.specs.Failures as switch
use Rattle.world_model.specs.Switch.{is_up}
use Rattle.console_model.specs.Plain as plain
use Rattle.console_model.specs.Plain.{Links, is_port, leads_there}
use Rattle.law_console.specs.Words.{first_ports, first_rows, IsCommand}
use Rattle.law_console.specs.Kept.{Leads}
use Rattle.law_console.proofs.Ports.{has_is, up_is, named_is, connects, all_same, all_true, all_each, held}

-- the port whose session a command names
abbrev pub first_port : Request → PortNo
first_port (AddBranch input output) = input.port
first_port (MoveBranch input from to) = input.port
first_port (DeleteTree input) = input.port
first_port (VerifyTree input) = input.port
first_port (DeleteAll port) = port
first_port (PortManagement port function) = port
first_port AllPorts = record { 0 = 0 }

abbrev pub asked_as : (ports : ℕ) → Request → Asked
asked_as ports q = record { session = session_of (first_rows ports) (first_port q); request = q }

pub first_least : (q : Request) → IsCommand q → 1 ≤ (first_port q).0
first_least (AddBranch input output) is = is.0.port.0
first_least (MoveBranch input from to) is = is.0.port.0
first_least (DeleteTree input) is = is.port.0
first_least (VerifyTree input) is = is.port.0
first_least (DeleteAll port) is = is.0
first_least (PortManagement port function) is = absurd is
first_least AllPorts is = absurd is

module _ (ports : ℕ) where
  -- *Ports*
  ports_same : (q : Request) → IsCommand q → list_all (has_port (first_ports ports)) (named_ports q) ≡ list_all (is_port ports) (named_ports q)
  ports_same q is = all_same (has_port (first_ports ports)) (is_port ports) (named_ports q) (by q is)
    where
      by : (q : Request) → IsCommand q → Every (λ p. has_port (first_ports ports) p ≡ is_port ports p) (named_ports q)
      by (AddBranch input output) is = (has_is ports input.port is.0.port.0, (has_is ports output.port is.1.port.0, tt))
      by (MoveBranch input from to) is = (has_is ports input.port is.0.port.0, (has_is ports from.port is.1.port.0, (has_is ports to.port is.2.port.0, tt)))
      by (DeleteTree input) is = (has_is ports input.port is.port.0, tt)
      by (VerifyTree input) is = (has_is ports input.port is.port.0, tt)
      by (DeleteAll port) is = (has_is ports port is.0, tt)
      by (PortManagement port function) is = absurd is
      by AllPorts is = absurd is

  -- where each is there, so is each session, none is down, and each channel is one of its port
  record HasAll (q : Request) : Type 0 where
    session : names_session (first_ports ports) (session_of (first_rows ports) (first_port q)) (named_ports q) ≡ true
    up : list_all (is_up (first_ports ports)) (used_ports q) ≡ true
    range : list_all (is_connectable (numbers_of (first_ports ports)) 1) (named_ends q) ≡ list_all (λ end. is_link_channel 1 end.channel) (named_ends q)

  of_ends : (input : End) (others : List End) → 1 ≤ input.port.0 → Every (λ e. 1 ≤ e.port.0) others → is_port ports input.port ≡ true → Every (λ e. is_port ports e.port ≡ true) others
      → Every (λ e. is_connectable (numbers_of (first_ports ports)) 1 e ≡ is_link_channel 1 e.channel) (input ∷ others)
  of_ends input [] least leasts there theres = (connects ports input least there, tt)
  of_ends input (e ∷ others) least leasts there theres = (connects ports input least there, of_ends e others leasts.0 leasts.1 theres.0 theres.1)

  ends_same : (ends : List End) → Every (λ e. is_connectable (numbers_of (first_ports ports)) 1 e ≡ is_link_channel 1 e.channel) ends
      → list_all (is_connectable (numbers_of (first_ports ports)) 1) ends ≡ list_all (λ end. is_link_channel 1 end.channel) ends
  ends_same ends each = all_same (is_connectable (numbers_of (first_ports ports)) 1) (λ end. is_link_channel 1 end.channel) ends each

  has_all : (q : Request) → IsCommand q → list_all (is_port ports) (named_ports q) ≡ true → HasAll q
  has_all (AddBranch input output) is all =
      let each = all_each (is_port ports) (input.port ∷ output.port ∷ []) all in
      record {
        session = named_is ports input.port is.0.port.0 each.0;
        up = all_true (is_up (first_ports ports)) (input.port ∷ output.port ∷ []) (up_is ports input.port is.0.port.0 each.0, (up_is ports output.port is.1.port.0 each.1.0, tt));
        range = ends_same (input ∷ output ∷ []) (of_ends input (output ∷ []) is.0.port.0 (is.1.port.0, tt) each.0 (each.1.0, tt));
      }
  has_all (MoveBranch input from to) is all =
      let each = all_each (is_port ports) (input.port ∷ from.port ∷ to.port ∷ []) all in
      record {
        session = named_is ports input.port is.0.port.0 each.0;
        up = all_true (is_up (first_ports ports)) (input.port ∷ from.port ∷ to.port ∷ [])
            (up_is ports input.port is.0.port.0 each.0, (up_is ports from.port is.1.port.0 each.1.0, (up_is ports to.port is.2.port.0 each.1.1.0, tt)));
        range = ends_same (input ∷ from ∷ to ∷ [])
            (of_ends input (from ∷ to ∷ []) is.0.port.0 (is.1.port.0, (is.2.port.0, tt)) each.0 (each.1.0, (each.1.1.0, tt)));
      }
  has_all (DeleteTree input) is all =
      let each = all_each (is_port ports) (input.port ∷ []) all in
      record {
        session = named_is ports input.port is.port.0 each.0;
        up = all_true (is_up (first_ports ports)) (input.port ∷ []) (up_is ports input.port is.port.0 each.0, tt);
        range = ends_same (input ∷ []) (of_ends input [] is.port.0 tt each.0 tt);
      }
  has_all (VerifyTree input) is all =
      let each = all_each (is_port ports) (input.port ∷ []) all in
      record {
        session = named_is ports input.port is.port.0 each.0;
        up = all_true (is_up (first_ports ports)) (input.port ∷ []) (up_is ports input.port is.port.0 each.0, tt);
        range = ends_same (input ∷ []) (of_ends input [] is.port.0 tt each.0 tt);
      }
  has_all (DeleteAll port) is all =
      let each = all_each (is_port ports) (port ∷ []) all in
      record {
        session = named_is ports port is.0 each.0;
        up = all_true (is_up (first_ports ports)) (port ∷ []) (up_is ports port is.0 each.0, tt);
        range = refl;
      }
  has_all (PortManagement port function) is all = absurd is
  has_all AllPorts is all = absurd is

  spent_never : (session : ℕ) (q : Request) → IsCommand q → is_last_session session q ≡ false
  spent_never session (AddBranch input output) is = refl
  spent_never session (MoveBranch input from to) is = refl
  spent_never session (DeleteTree input) is = refl
  spent_never session (VerifyTree input) is = refl
  spent_never session (DeleteAll port) is = refl
  spent_never session (PortManagement port function) is = absurd is
  spent_never session AllPorts is = absurd is

  module _ (b : Branches) (m : Links) (leads : Leads b m) where
    pub busy_same : (q : Request) → switch.is_busy b q ≡ plain.is_busy m q
    busy_same (AddBranch input output) = ap (leads_elsewhere output) (leads input)
    busy_same (MoveBranch input from to) = refl
    busy_same (DeleteTree input) = refl
    busy_same (VerifyTree input) = refl
    busy_same (DeleteAll port) = refl
    busy_same (PortManagement port function) = refl
    busy_same AllPorts = refl

    pub lacks_same : (q : Request) → switch.lacks_branch b q ≡ plain.lacks_branch m q
    lacks_same (AddBranch input output) = refl
    lacks_same (MoveBranch input from to) = ap (λ (o : Option End). not (leads_there from to o)) (leads input)
    lacks_same (DeleteTree input) = refl
    lacks_same (VerifyTree input) = ap is_none (leads input)
    lacks_same (DeleteAll port) = refl
    lacks_same (PortManagement port function) = refl
    lacks_same AllPorts = refl

    -- *The first of seven* is the first of four
    first_alike : (w1 w2 w3 w4 w5 w6 w7 p1 p2 p3 p4 : Bool) → w1 ≡ p1 → (p1 ≡ false → (w2 ≡ false) × (w3 ≡ false) × (w4 ≡ p2)) → w5 ≡ p3 → w6 ≡ p4 → w7 ≡ false
        → cond w1 (Some NoPort) (cond w2 (Some BadSession) (cond w3 (Some PortDown) (cond w4 (Some OutOfRange) (cond w5 (Some Busy) (cond w6 (Some NoConnection) (cond w7 (Some SessionsSpent) None))))))
        ≡ cond p1 (Some NoPort) (cond p2 (Some OutOfRange) (cond p3 (Some Busy) (cond p4 (Some NoConnection) None)))
    first_alike w1 w2 w3 w4 w5 w6 w7 true p2 p3 p4 e rest e5 e6 e7 =
        ap (λ (w : Bool). cond w (Some NoPort) (cond w2 (Some BadSession) (cond w3 (Some PortDown) (cond w4 (Some OutOfRange) (cond w5 (Some Busy) (cond w6 (Some NoConnection) (cond w7 (Some SessionsSpent) None))))))) e
    first_alike w1 w2 w3 w4 w5 w6 w7 false p2 p3 p4 e rest e5 e6 e7 =
        let r = rest refl in λ i. cond (e i) (Some NoPort) (cond (r.0 i) (Some BadSession) (cond (r.1 i) (Some PortDown)
        (cond (r.2 i) (Some OutOfRange) (cond (e5 i) (Some Busy) (cond (e6 i) (Some NoConnection) (cond (e7 i) (Some SessionsSpent) None))))))

    pub fails_alike : (q : Request) → IsCommand q → switch.failure_of (first_ports ports) 1 b (asked_as ports q) ≡ plain.failure_of ports m q
    fails_alike q is = first_alike _ _ _ _ _ _ _ (plain.applies ports m q NoPort) (plain.applies ports m q OutOfRange) (plain.applies ports m q Busy) (plain.applies ports m q NoConnection)
        (ap not (ports_same q is))
        (λ none. (let all : HasAll q = has_all q is (held (list_all (is_port ports) (named_ports q)) none) in (ap not all.session, ap not all.up, ap not all.range)))
        (busy_same q) (lacks_same q) (spent_never (session_of (first_rows ports) (first_port q)) q is)

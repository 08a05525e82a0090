-- requests of the shapes that a controller asks are fit for the switch that it knows

use Rattle.std.proofs.Common.{◌≡◌, ℕ, ◌+◌, ◌*◌, ◌<◌, ◌≤◌, Bool, true, false, List, [], ◌∷◌, map, Option, None, Some, is_some, refl, sym, ◌∙◌, ap, subst, arith, inl, inr, if◌then◌else◌}
use Rattle.std.specs.Prelude.{◌&&◌, ◌||◌, ◌==◌, ◌-◌, nat_le, nat_lt, find}
use Rattle.std.specs.List.{list_any}
use Rattle.std.specs.Option.{option_map_or}
use Rattle.std.proofs.lemmas.Bool.Decides.{nat_tests}
use Rattle.world_model.specs.Words.{End, PortNo, IsLinkPort, is_label_number, label_channel_of, PortRow, at, Request, AddBranch, MoveBranch, session_of, message_of, is_link_channel, is_channel_of, is_connectable, Switch, numbers_of, has_port, has_session, is_gsmp, Setup, home_of}
use Rattle.net_types.specs.Label.{is_label_vci}
use Rattle.world_model.specs.Switch.{is_up}
use Rattle.world_model.specs.gsmp_wire.declared.request.Request.TheVariants.{DeleteAll}
use Rattle.world_model.specs.switch_model.declared.port.PortState.{PortState}
use Rattle.law_port_facts.specs.Port.{setup_port, IsLabelEnd, IsLinked, IsDefaultEnd, IsShaped, asks_ports, empties_control, empties_port, opens_input, opens_output, leads_label, leads_grant, joins_label, parts_label, frees_label}
use Rattle.law_port_facts.proofs.Keyed.{at_key, at_every}
use Rattle.law_port_facts.proofs.Found.{find_passes, find_every}
use Rattle.law_live_mirrors.specs.Fit.{IsKnown, NamesNoGsmp, AsksFit}
use Rattle.law_live_mirrors.specs.Law.{RequestsAreFit}

-- *Tests of all*
two : (a b : Bool) → a ≡ true → b ≡ true → (a && (b && true)) ≡ true
two true true p q = refl
two true false p q = absurd (cc q)
two false b p q = absurd (cc p)

three : (a b c : Bool) → a ≡ true → b ≡ true → c ≡ true → (a && (b && (c && true))) ≡ true
three true b c p q r = two b c q r
three false b c p q r = absurd (cc p)

one : (a : Bool) → a ≡ true → (a && true) ≡ true
one true p = refl
one false p = absurd (cc p)

-- *A number among those of ports*
abbrev is_port : (k : ℕ) → PortNo → Bool
is_port k port = port.0 == k

any_by : {A : Type 0} (test other : A → Bool) (xs : List A) → ((x : A) → test x ≡ true → other x ≡ true) → list_any test xs ≡ true → list_any other xs ≡ true
any_by test other [] each h = h
any_by test other (x ∷ xs) each h = elim (test x) as (λ t. test x ≡ t → (t || list_any test xs) ≡ true → (other x || list_any other xs) ≡ true) [
  | true ↦ λ t k. ap (λ (b : Bool). b || list_any other xs) (each x t)
  | false ↦ λ t k. last (other x) (any_by test other xs each k)
] refl h
  where
    last : (b : Bool) → list_any other xs ≡ true → (b || list_any other xs) ≡ true
    last true e = refl
    last false e = e

linked_among : (setups : List Setup) (k : ℕ) → is_some (at setup_port k setups) ≡ true → list_any (is_port k) (map (λ (setup : Setup). setup.port) setups) ≡ true
linked_among [] k h = absurd (cc h)
linked_among (setup ∷ setups) k h = elim (setup.port.0 == k) as (λ t. is_some (if t then Some setup else at setup_port k setups) ≡ true → (t || list_any (is_port k) (map (λ (x : Setup). x.port) setups)) ≡ true) [
  | true ↦ λ e. refl
  | false ↦ λ e. linked_among setups k e
] h

-- the state of a port
record Found (states : List PortState) (k : ℕ) : Type 0 where
  state : PortState
  is : find (λ (x : PortState). x.number.0 == k) states ≡ Some state

state_found : (states : List PortState) (k : ℕ) → list_any (is_port k) (numbers_of states) ≡ true → Found states k
state_found [] k h = absurd (cc h)
state_found (x ∷ states) k h = elim (x.number.0 == k) as (λ t. (x.number.0 == k) ≡ t → (t || list_any (is_port k) (numbers_of states)) ≡ true → Found (x ∷ states) k) [
  | true ↦ λ t e. record { state = x; is = ap (λ (b : Bool). if b then Some x else find (λ (y : PortState). y.number.0 == k) states) t }
  | false ↦ λ t e. (let rest : Found states k = state_found states k e in
      record { state = rest.state; is = ap (λ (b : Bool). if b then Some x else find (λ (y : PortState). y.number.0 == k) states) t ∙ rest.is })
] refl h

module _ (setups : List Setup) (rows : List PortRow) (s : Switch) (k : IsKnown setups rows s) where
  -- *A port that the switch has*: the control port, or a linked one
  abbrev IsThere : PortNo → Type 0
  IsThere port = list_any (is_port port.0) (numbers_of s.ports) ≡ true

  control_there : (port : PortNo) → port.0 ≡ 0 → IsThere port
  control_there port zero = subst (λ (numbers : List PortNo). list_any (is_port port.0) numbers ≡ true) (sym k.numbers)
      (ap (λ (b : Bool). b || list_any (is_port port.0) (map (λ (setup : Setup). setup.port) setups)) (same port.0 zero))
    where
      same : (n : ℕ) → n ≡ 0 → (0 == n) ≡ true
      same n e = grind (arith, nat_tests)

  linked_there : (port : PortNo) → IsLinked setups port → IsThere port
  linked_there port linked = subst (λ (numbers : List PortNo). list_any (is_port port.0) numbers ≡ true) (sym k.numbers)
      (last (0 == port.0) (linked_among setups port.0 linked))
    where
      last : (b : Bool) → list_any (is_port port.0) (map (λ (setup : Setup). setup.port) setups) ≡ true → (b || list_any (is_port port.0) (map (λ (setup : Setup). setup.port) setups)) ≡ true
      last true e = refl
      last false e = e

  record Serves (port : PortNo) : Type 0 where
    has : has_port s.ports port ≡ true
    up : is_up s.ports port ≡ true
    session : has_session s.ports port (session_of rows port) ≡ true

  serves : (port : PortNo) → IsThere port → Serves port
  serves port there = record {
    has = ap (λ (o : Option PortState). is_some o) found.is;
    up = ap (λ (o : Option PortState). option_map_or (λ (x : PortState). x.is_up) o false) found.is
        ∙ find_every (λ (x : PortState). x.is_up ≡ true) test s.ports found.state k.up found.is;
    session = ap (λ (o : Option PortState). option_map_or (λ (x : PortState). x.session == session_of rows port) o false) found.is ∙ same found.state.session (session_of rows port) told;
  }
    where
      test : PortState → Bool
      test x = x.number.0 == port.0

      found : Found s.ports port.0
      found = state_found s.ports port.0 there

      number_is : found.state.number.0 ≡ port.0
      number_is = equal found.state.number.0 port.0 (find_passes test s.ports found.state found.is)
        where
          equal : (a b : ℕ) → (a == b) ≡ true → a ≡ b
          equal a b e = grind (arith, nat_tests)

      told : found.state.session ≡ session_of rows port
      told = sym (find_every (λ (x : PortState). session_of rows x.number ≡ x.session) test s.ports found.state k.sessions found.is)
          ∙ ap (λ (n : ℕ). session_of rows (record { 0 = n })) number_is

      same : (a b : ℕ) → a ≡ b → (a == b) ≡ true
      same a b e = grind (arith, nat_tests)

  -- *A channel that the switch connects*
  abbrev Connects : End → Type 0
  Connects end = is_connectable (numbers_of s.ports) s.vpis end ≡ true

  connects : (end : End) (port : PortNo) → IsThere port → ((p : PortNo) → p.0 ≡ port.0 → is_channel_of p s.vpis end ≡ true) → Connects end
  connects end port there is = any_by (is_port port.0) (λ (p : PortNo). is_channel_of p s.vpis end) (numbers_of s.ports) (λ p t. is p (equal p.0 port.0 t)) there
    where
      equal : (a b : ℕ) → (a == b) ≡ true → a ≡ b
      equal a b e = grind (arith, nat_tests)

  -- an end of a port of a link, and its channel on the control link
  record Lies (end : End) : Type 0 where
    there : IsThere end.port
    link : 1 ≤ end.port.0
    channel : is_link_channel s.vpis end.channel ≡ true

  on_port : (vpis : ℕ) (p q : ℕ) (link : Bool) → p ≡ q → 1 ≤ q → link ≡ true → (b : Bool) → (nat_lt 0 p && (if q == 0 then b else (q == p) && link)) ≡ true
  on_port vpis p q link same some is b = grind (arith, nat_tests)

  own_connects : (end : End) → Lies end → Connects end
  own_connects end lies = connects end end.port lies.there (λ p same. on_port s.vpis p.0 end.port.0 (is_link_channel s.vpis end.channel) same lies.link lies.channel
      (nat_le (16 * p.0) end.channel.vpi && is_link_channel s.vpis (record end.channel { vpi = end.channel.vpi - 16 * p.0 })))

  home_connects : (end : End) → Lies end → Connects (home_of end)
  home_connects end lies = connects (home_of end) end.port lies.there each
    where
      back : (p q vpi : ℕ) → p ≡ q → (16 * q + vpi) - 16 * p ≡ vpi
      back p q vpi same = omega (arith, same)

      above : (p q vpi : ℕ) (link : Bool) → p ≡ q → 1 ≤ q → link ≡ true → (nat_lt 0 p && (nat_le (16 * p) (16 * q + vpi) && link)) ≡ true
      above p q vpi link same some is = grind (arith, nat_tests)

      each : (p : PortNo) → p.0 ≡ end.port.0 → is_channel_of p s.vpis (home_of end) ≡ true
      each p same = above p.0 end.port.0 end.channel.vpi (is_link_channel s.vpis (record { vpi = (16 * end.port.0 + end.channel.vpi) - 16 * p.0; vci = end.channel.vci })) same lies.link
          (ap (λ (v : ℕ). is_link_channel s.vpis (record { vpi = v; vci = end.channel.vci })) (back p.0 end.port.0 end.channel.vpi same) ∙ lies.channel)

  -- *The channel of a label*
  label_lies : (end : End) → IsLabelEnd setups end → Lies end
  label_lies end label = subst Lies (sym label.is) (record {
    there = linked_there label.setup.port (ap (λ (o : Option Setup). is_some o) label.linked);
    link = (at_every setup_port (λ (setup : Setup). IsLinkPort setup.port) label.setup.port.0 setups label.setup k.links label.linked).0;
    channel = channel_in s.vpis label.setup.least label.setup.greatest label.number
        (at_every setup_port (λ (setup : Setup). setup.greatest < 1024 * s.vpis) label.setup.port.0 setups label.setup k.paths label.linked) label.in_range;
  })
    where
      channel_in : (vpis least greatest number : ℕ) → greatest < 1024 * vpis → (is_label_number number && (nat_le least number && nat_le number greatest)) ≡ true
          → is_link_channel vpis (label_channel_of number) ≡ true
      channel_in vpis least greatest number wide inside = grind (arith, nat_tests)

  -- *A default channel* of a link
  default_lies : (end : End) → IsDefaultEnd setups end → is_gsmp end.port end.channel ≡ false → Lies end
  default_lies end default apart = elim default.port [
    | inl zero ↦ absurd (cc (sym (gsmp end.port.0 end.channel.vpi end.channel.vci zero default.vpi default.vci) ∙ apart))
    | inr linked ↦ record { there = linked_there end.port linked; link = of_link end.port.0 linked; channel = channel_is end.channel.vpi end.channel.vci default.vpi default.vci }
  ]
    where
      gsmp : (p v c : ℕ) → p ≡ 0 → v ≡ 0 → c ≡ 15 → ((p == 0) && ((v == 0) && (c == 15))) ≡ true
      gsmp p v c e f g = grind (arith, nat_tests)

      of_link : (n : ℕ) → is_some (at setup_port n setups) ≡ true → 1 ≤ n
      of_link n h = by (at setup_port n setups) refl h
        where
          by : (o : Option Setup) → at setup_port n setups ≡ o → is_some o ≡ true → 1 ≤ n
          by None is e = absurd (cc e)
          by (Some setup) is e = subst (λ m. 1 ≤ m) (at_key setup_port n setups setup is)
              (at_every setup_port (λ (x : Setup). IsLinkPort x.port) n setups setup k.links is).0

      channel_is : (v c : ℕ) → v ≡ 0 → c ≡ 15 → is_link_channel s.vpis (record { vpi = v; vci = c }) ≡ true
      channel_is v c e f = ap (λ (b : Bool). b || (nat_lt v s.vpis && is_label_vci c)) (first v c e f)
        where
          first : (v c : ℕ) → v ≡ 0 → c ≡ 15 → ((v == 0) && (c == 15)) ≡ true
          first v c e f = grind (arith, nat_tests)

  -- *Each request*
  abbrev zero_port : PortNo
  zero_port = record { 0 = 0 }

  adds : (number : ℕ) (input output : End) → Serves input.port → Serves output.port → Connects input → Connects output → AsksFit s (message_of rows number (AddBranch input output)) (AddBranch input output)
  adds number input output p q from to = record {
    session = session_of rows input.port;
    is = refl;
    fit = record {
      is_asked = tt;
      ports = two (has_port s.ports input.port) (has_port s.ports output.port) p.has q.has;
      session = p.session;
      up = two (is_up s.ports input.port) (is_up s.ports output.port) p.up q.up;
      channels = two (is_connectable (numbers_of s.ports) s.vpis input) (is_connectable (numbers_of s.ports) s.vpis output) from to;
    };
  }

  moves : (number : ℕ) (input from to : End) → Serves input.port → Serves from.port → Serves to.port → Connects input → Connects from → Connects to
      → AsksFit s (message_of rows number (MoveBranch input from to)) (MoveBranch input from to)
  moves number input from to p q r at_input at_from at_to = record {
    session = session_of rows input.port;
    is = refl;
    fit = record {
      is_asked = tt;
      ports = three (has_port s.ports input.port) (has_port s.ports from.port) (has_port s.ports to.port) p.has q.has r.has;
      session = p.session;
      up = three (is_up s.ports input.port) (is_up s.ports from.port) (is_up s.ports to.port) p.up q.up r.up;
      channels = three (is_connectable (numbers_of s.ports) s.vpis input) (is_connectable (numbers_of s.ports) s.vpis from) (is_connectable (numbers_of s.ports) s.vpis to) at_input at_from at_to;
    };
  }

  empties : (number : ℕ) (port : PortNo) → Serves port → AsksFit s (message_of rows number (DeleteAll port)) (DeleteAll port)
  empties number port p = record {
    session = session_of rows port;
    is = refl;
    fit = record { is_asked = tt; ports = one (has_port s.ports port) p.has; session = p.session; up = one (is_up s.ports port) p.up; channels = refl };
  }

  at_own : (end : End) → Lies end → Serves end.port
  at_own end lies = serves end.port lies.there

  at_home : Serves zero_port
  at_home = serves zero_port (control_there zero_port refl)

  first_apart : (a b : Bool) → (a || (b || false)) ≡ false → a ≡ false
  first_apart true b e = absurd (cc e)
  first_apart false b e = refl

  second_apart : (a b : Bool) → (a || (b || false)) ≡ false → b ≡ false
  second_apart true b e = absurd (cc e)
  second_apart false true e = absurd (cc e)
  second_apart false false e = refl

  fits : (number : ℕ) (request : Request) → IsShaped setups request → NamesNoGsmp request → AsksFit s (message_of rows number request) request
  fits number _ asks_ports apart = record { session = 0; is = refl; fit = record { is_asked = tt; ports = refl; session = refl; up = refl; channels = refl } }
  fits number _ (empties_control port zero) apart = empties number port (serves port (control_there port zero))
  fits number _ (empties_port port linked) apart = empties number port (serves port (linked_there port linked))
  fits number _ (opens_input end default) apart =
      let lies : Lies end = default_lies end default (first_apart (is_gsmp end.port end.channel) (is_gsmp (home_of end).port (home_of end).channel) apart) in
      adds number end (home_of end) (at_own end lies) at_home (own_connects end lies) (home_connects end lies)
  fits number _ (opens_output end default) apart =
      let lies : Lies end = default_lies end default (second_apart (is_gsmp (home_of end).port (home_of end).channel) (is_gsmp end.port end.channel) apart) in
      adds number (home_of end) end at_home (at_own end lies) (home_connects end lies) (own_connects end lies)
  fits number _ (leads_label end label) apart =
      let lies : Lies end = label_lies end label in
      adds number end (home_of end) (at_own end lies) at_home (own_connects end lies) (home_connects end lies)
  fits number _ (leads_grant end label) apart =
      let lies : Lies end = label_lies end label in
      adds number (home_of end) end at_home (at_own end lies) (home_connects end lies) (own_connects end lies)
  fits number _ (joins_label input output from to) apart =
      let lies : Lies input = label_lies input from in
      let far : Lies output = label_lies output to in
      moves number input (home_of input) output (at_own input lies) at_home (at_own output far) (own_connects input lies) (home_connects input lies) (own_connects output far)
  fits number _ (parts_label input output from to) apart =
      let lies : Lies input = label_lies input from in
      let far : Lies output = label_lies output to in
      moves number input output (home_of input) (at_own input lies) (at_own output far) at_home (own_connects input lies) (own_connects output far) (home_connects input lies)
  fits number _ (frees_label end label) apart =
      let lies : Lies end = label_lies end label in
      let p : Serves end.port = at_own end lies in
      record {
        session = session_of rows end.port;
        is = refl;
        fit = record {
          is_asked = tt;
          ports = one (has_port s.ports end.port) p.has;
          session = p.session;
          up = one (is_up s.ports end.port) p.up;
          channels = one (is_connectable (numbers_of s.ports) s.vpis end) (own_connects end lies);
        };
      }

pub requests_are_fit : RequestsAreFit
requests_are_fit setups rows s number request known shape apart = fits setups rows s known number request shape apart

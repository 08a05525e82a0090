-- what keeps all joins of a controller: a port in the place of one whose joins it keeps

use Rattle.std.proofs.Common.{◌≡◌, ◌≢◌, ℕ, List, [], Option, Some, sym, ◌∙◌, ap, subst}
use Rattle.std.specs.Option.{option_map_or, option_and_then}
use Rattle.world_model.specs.Words.{PortNo, End, FlowId, number_of_channel, at, put, label_at, Grant, grant_label, Controller, Linked, port_key, label_on}
use Rattle.world_model.specs.port_model.Port.{Port}
use Rattle.law_port_facts.proofs.Keyed.{by_eq, at_put_same, at_put_other}
use Rattle.law_live_joins.specs.Law.{granted_at}
use Rattle.law_live_joining.specs.Joins.{joined_label, lent_grant, KeepsJoins}

pub keeps_same : (a b : Controller) → b.ports ≡ a.ports → KeepsJoins a b
keeps_same a b same = record {
  joined = λ input what is. ap (λ (ports : List Linked). option_and_then joined_label (option_and_then (λ (l : Linked). label_at l.port (number_of_channel input.channel)) (at port_key input.port.0 ports))) same ∙ is;
  lent = λ port label what is. ap (λ (ports : List Linked). option_and_then lent_grant (at grant_label label (option_map_or (λ (l : Linked). l.port.grants) (at port_key port.0 ports) []))) same ∙ is;
}

pub keeps_then : (a b c : Controller) → KeepsJoins a b → KeepsJoins b c → KeepsJoins a c
keeps_then a b c p q = record {
  joined = λ input what is. q.joined input what (p.joined input what is);
  lent = λ port label what is. q.lent port label what (p.lent port label what is);
}

-- *A port keeps* what is joined and lent at it
pub record KeepsPort (before after : Port) : Type 0 where
  pub joined : (number : ℕ) (what : FlowId × End) → option_and_then joined_label (label_at before number) ≡ Some what → option_and_then joined_label (label_at after number) ≡ Some what
  pub lent : (label : ℕ) (what : FlowId × End) → option_and_then lent_grant (at grant_label label before.grants) ≡ Some what
      → option_and_then lent_grant (at grant_label label after.grants) ≡ Some what

pub port_itself : (port : Port) → KeepsPort port port
port_itself port = record { joined = λ number what is. is; lent = λ label what is. is }

-- *A port in the place of another*
module _ (a b : Controller) (old new : Linked) (there : at port_key (port_key old) a.ports ≡ Some old) (key : port_key new ≡ port_key old) (ports : b.ports ≡ put port_key new a.ports) where
  at_own : (k : ℕ) → k ≡ port_key old → at port_key k b.ports ≡ Some new
  at_own k is = ap (at port_key k) ports ∙ subst (λ n. at port_key n (put port_key new a.ports) ≡ Some new) (key ∙ sym is)
      (at_put_same port_key new a.ports old (ap (λ n. at port_key n a.ports) key ∙ there))

  at_others : (k : ℕ) → k ≢ port_key old → at port_key k b.ports ≡ at port_key k a.ports
  at_others k differs = ap (at port_key k) ports ∙ at_put_other port_key new k a.ports (λ e. differs (sym e ∙ key))

  old_there : (k : ℕ) → k ≡ port_key old → at port_key k a.ports ≡ Some old
  old_there k is = ap (λ n. at port_key n a.ports) is ∙ there

  -- its labels, and those of others
  pub label_own : (e : End) → e.port.0 ≡ port_key old → label_on b e ≡ label_at new.port (number_of_channel e.channel)
  label_own e is = ap (option_and_then (λ (l : Linked). label_at l.port (number_of_channel e.channel))) (at_own e.port.0 is)

  pub label_old : (e : End) → e.port.0 ≡ port_key old → label_on a e ≡ label_at old.port (number_of_channel e.channel)
  label_old e is = ap (option_and_then (λ (l : Linked). label_at l.port (number_of_channel e.channel))) (old_there e.port.0 is)

  pub label_others : (e : End) → e.port.0 ≢ port_key old → label_on b e ≡ label_on a e
  label_others e differs = ap (option_and_then (λ (l : Linked). label_at l.port (number_of_channel e.channel))) (at_others e.port.0 differs)

  -- its grants, and those of others
  pub granted_own : (port : PortNo) → port.0 ≡ port_key old → granted_at b port ≡ new.port.grants
  granted_own port is = ap (λ (o : Option Linked). option_map_or (λ (l : Linked). l.port.grants) o []) (at_own port.0 is)

  pub granted_old : (port : PortNo) → port.0 ≡ port_key old → granted_at a port ≡ old.port.grants
  granted_old port is = ap (λ (o : Option Linked). option_map_or (λ (l : Linked). l.port.grants) o []) (old_there port.0 is)

  pub granted_others : (port : PortNo) → port.0 ≢ port_key old → granted_at b port ≡ granted_at a port
  granted_others port differs = ap (λ (o : Option Linked). option_map_or (λ (l : Linked). l.port.grants) o []) (at_others port.0 differs)

  pub put_keeps : KeepsPort old.port new.port → KeepsJoins a b
  put_keeps keeps = record {
    joined = λ input what is. by_eq input.port.0 (port_key old)
        (λ same t. ap (option_and_then joined_label) (label_own input same) ∙ keeps.joined (number_of_channel input.channel) what (sym (ap (option_and_then joined_label) (label_old input same)) ∙ is))
        (λ differs t. ap (option_and_then joined_label) (label_others input differs) ∙ is);
    lent = λ port label what is. by_eq port.0 (port_key old)
        (λ same t. ap (λ (grants : List Grant). option_and_then lent_grant (at grant_label label grants)) (granted_own port same)
        ∙ keeps.lent label what (sym (ap (λ (grants : List Grant). option_and_then lent_grant (at grant_label label grants)) (granted_old port same)) ∙ is))
        (λ differs t. ap (λ (grants : List Grant). option_and_then lent_grant (at grant_label label grants)) (granted_others port differs) ∙ is);
  }

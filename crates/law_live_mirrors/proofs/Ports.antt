-- which inputs the ports lead alike once one of them is put in its place

use Rattle.std.proofs.Common.{◌≡◌, ◌≢◌, ℕ, ◌+◌, ◌*◌, ◌/◌, ◌%◌, ◌<◌, Bool, true, false, not, List, [], ◌∷◌, ◌++◌, Option, None, Some, refl, sym, ◌∙◌, ap, subst, arith, if◌then◌else◌}
use Rattle.std.specs.Prelude.{◌&&◌, ◌==◌, nat_eq, nat_le}
use Rattle.std.specs.Option.{option_map_or, option_and_then}
use Rattle.std.proofs.lemmas.Bool.Decides.{nat_tests}
use Rattle.net_types.proofs.Labels.{label_channel_of-number_of_channel}
use Rattle.world_model.specs.Words.{End, PortNo, Channel, is_label_channel, is_label_number, label_channel_of, label_number_of, number_of_channel, at, put, entered, key_le, label_end, control_end, home_of, Label, label_number, label_at, Grant, grant_label, grant_on, Linked, port_key, port_on, on_link}
use Rattle.world_model.specs.port_model.Port.{Port}
use Rattle.law_port_facts.proofs.Keyed.{by_eq, at_put_same, at_put_other}
use Rattle.law_live_mirrors.specs.Mirrors.{other_end, is_labels, led_in, led_by, label_leads, is_led_out, grant_in}
use Rattle.law_live_mirrors.specs.Standing.{LeadAlike}

-- *What a port holds* of a label's number and of a grant's
abbrev pub leads_by : (input : End) → Port → Option End
leads_by input port = led_by input (label_at port (number_of_channel input.channel))

abbrev pub is_out : List Grant → Option ℕ → Bool
is_out grants number = option_map_or (λ (grant : Grant). is_led_out grant.state) (grant_on grants number) false

-- whether the grant of an input's other end leads out
abbrev pub grant_out : List Linked → (input : End) → Bool
grant_out ports input = option_map_or (λ (grant : Grant). is_led_out grant.state) (grant_in ports (other_end input)) false

pub alike_itself : (ports : List Linked) (input : End) → LeadAlike ports ports input
alike_itself ports input = record { label = λ is. refl; grant = refl }

pub alike_then : (a b c : List Linked) (input : End) → LeadAlike a b input → LeadAlike b c input → LeadAlike a c input
alike_then a b c input p q = record { label = λ is. q.label is ∙ p.label is; grant = q.grant ∙ p.grant }

pub alike_by : (a b c : List Linked) (input : End) → c ≡ b → LeadAlike a b input → LeadAlike a c input
alike_by a b c input same p = subst (λ (ports : List Linked). LeadAlike a ports input) (sym same) p

-- *A port is put*
abbrev pub put_ports : List Linked → Linked → Port → List Linked
put_ports ports linked q = put port_key (record linked { port = q }) ports

module _ (ports : List Linked) (linked : Linked) (there : at port_key linked.setup.port.0 ports ≡ Some linked) (q : Port) where
  abbrev new_port : Linked
  new_port = record linked { port = q }

  pub put_there : at port_key linked.setup.port.0 (put_ports ports linked q) ≡ Some new_port
  put_there = at_put_same port_key new_port ports linked there

  pub put_alike : (input : End)
      → (input.port.0 ≡ linked.setup.port.0 → is_labels input ≡ true → leads_by input q ≡ leads_by input linked.port)
      → ((other_end input).port.0 ≡ linked.setup.port.0 → is_out q.grants (label_number_of (other_end input).channel) ≡ is_out linked.port.grants (label_number_of (other_end input).channel))
      → LeadAlike ports (put_ports ports linked q) input
  put_alike input labels grants = record {
    label = λ is. by_eq input.port.0 linked.setup.port.0
        (λ same t. ap by_label (subst (λ n. at port_key n (put_ports ports linked q) ≡ Some new_port) (sym same) put_there)
        ∙ (labels same is ∙ sym (ap by_label (subst (λ n. at port_key n ports ≡ Some linked) (sym same) there))))
        (λ differ t. ap by_label (at_put_other port_key new_port input.port.0 ports (λ e. differ (sym e))));
    grant = by_eq (other_end input).port.0 linked.setup.port.0
        (λ same t. ap by_grant (subst (λ n. at port_key n (put_ports ports linked q) ≡ Some new_port) (sym same) put_there)
        ∙ (ap (λ (b : Bool). (input.port.0 == 0) && b) (grants same) ∙ sym (ap by_grant (subst (λ n. at port_key n ports ≡ Some linked) (sym same) there))))
        (λ differ t. ap by_grant (at_put_other port_key new_port (other_end input).port.0 ports (λ e. differ (sym e))));
  }
    where
      by_label : Option Linked → Option End
      by_label o = led_by input (option_and_then (λ (l : Linked). label_at l.port (number_of_channel input.channel)) o)

      by_grant : Option Linked → Bool
      by_grant o = (input.port.0 == 0) && option_map_or (λ (grant : Grant). is_led_out grant.state) (option_and_then (λ (l : Linked). grant_on l.port.grants (label_number_of (other_end input).channel)) o) false

  -- what it leads by then
  pub put_label_leads : (input : End) → input.port.0 ≡ linked.setup.port.0 → label_leads (put_ports ports linked q) input ≡ leads_by input q
  put_label_leads input same = ap (λ (o : Option Linked). led_by input (option_and_then (λ (l : Linked). label_at l.port (number_of_channel input.channel)) o))
      (subst (λ n. at port_key n (put_ports ports linked q) ≡ Some new_port) (sym same) put_there)

-- *The number of a label's channel* is that of no other
pub label_of : (channel : Channel) → is_label_channel channel ≡ true → label_channel_of (number_of_channel channel) ≡ channel
label_of channel is = label_channel_of-number_of_channel channel is

pub one_channel : (a b : Channel) → is_label_channel a ≡ true → is_label_channel b ≡ true → number_of_channel a ≡ number_of_channel b → a ≡ b
one_channel a b is_a is_b same = sym (label_of a is_a) ∙ (ap label_channel_of same ∙ label_of b is_b)

pub labels_channel : (input : End) → is_labels input ≡ true → is_label_channel input.channel ≡ true
labels_channel input is = second (not (input.port.0 == 0)) (is_label_channel input.channel) is
  where
    second : (a b : Bool) → (a && b) ≡ true → b ≡ true
    second true b e = e
    second false b e = absurd (cc e)

pub labels_port : (input : End) → is_labels input ≡ true → (input.port.0 == 0) ≡ false
labels_port input is = first (input.port.0 == 0) (is_label_channel input.channel) is
  where
    first : (a b : Bool) → (not a && b) ≡ true → a ≡ false
    first true b e = absurd (cc e)
    first false b e = refl

pub end_is : (a b : End) → a.port.0 ≡ b.port.0 → a.channel ≡ b.channel → a ≡ b
end_is a b ports channels = λ i. record { port = record { 0 = ports i }; channel = channels i }

-- *The channel of a label in range*
pub number_again : (number : ℕ) → number_of_channel (label_channel_of number) ≡ number
number_again number = omega arith

pub number_in : (number : ℕ) → is_label_number number ≡ true → label_number_of (label_channel_of number) ≡ Some number
number_in number is = grind (arith, nat_tests)

pub is_labels_end : (port : PortNo) (number : ℕ) → port.0 ≢ 0 → is_label_number number ≡ true → is_labels (label_end port number) ≡ true
is_labels_end port number link is = ap (λ (b : Bool). not b && is_label_number number) (none port.0 link) ∙ is
  where
    none : (n : ℕ) → n ≢ 0 → (n == 0) ≡ false
    none n e = grind (arith, nat_tests)

-- *The channel of a grant* on the control link
back_to_port : (port vpi : ℕ) → vpi < 16 → (16 * port + vpi) / 16 ≡ port
back_to_port port vpi low = omega (arith, low)

back_to_path : (port vpi : ℕ) → vpi < 16 → (16 * port + vpi) % 16 ≡ vpi
back_to_path port vpi low = omega (arith, low)

low_path : (number : ℕ) → is_label_number number ≡ true → number / 1024 < 16
low_path number is = grind (arith, nat_tests)

pub other_of_control : (port : PortNo) (number : ℕ) → is_label_number number ≡ true → other_end (control_end port number) ≡ label_end port number
other_of_control port number is = λ i. record {
  port = record { 0 = back_to_port port.0 (number / 1024) (low_path number is) i };
  channel = record { vpi = back_to_path port.0 (number / 1024) (low_path number is) i; vci = number % 1024 };
}

-- an input of the control link whose other end is that of a label is the label's
pub control_is : (input : End) (port : PortNo) (number : ℕ) → input.port.0 ≡ 0 → other_end input ≡ label_end port number → input ≡ control_end port number
control_is input port number zero same = end_is input (control_end port number) zero (channel_is input.channel (label_channel_of number) port.0 ports channels)
  where
    is_zero : (n : ℕ) → n ≡ 0 → (n == 0) ≡ true
    is_zero n e = grind (arith, nat_tests)

    out : other_end input ≡ record { port = port_on input.channel; channel = on_link input.channel }
    out = ap (λ (b : Bool). if b then record { port = port_on input.channel; channel = on_link input.channel } else home_of input) (is_zero input.port.0 zero)

    ports : input.channel.vpi / 16 ≡ port.0
    ports = ap (λ (e : End). e.port.0) (sym out ∙ same)

    channels : on_link input.channel ≡ label_channel_of number
    channels = ap (λ (e : End). e.channel) (sym out ∙ same)

    path_is : (v w p : ℕ) → v / 16 ≡ p → v % 16 ≡ w → v ≡ 16 * p + w
    path_is v w p e f = omega (arith, e, f)

    channel_is : (c d : Channel) (p : ℕ) → c.vpi / 16 ≡ p → on_link c ≡ d → c ≡ record { vpi = 16 * p + d.vpi; vci = d.vci }
    channel_is c d p e f = λ i. record { vpi = path_is c.vpi d.vpi p e (ap (λ (x : Channel). x.vpi) f) i; vci = (f i).vci }

-- *Labels*: one is put in the place of its like; a new one is entered
pub relabelled : (input : End) (label after : Label) (labels : List Label) (k : ℕ) → at label_number after.number labels ≡ Some label
    → (after.number ≡ k → led_in input after after.state ≡ led_in input label label.state)
    → led_by input (at label_number k (put label_number after labels)) ≡ led_by input (at label_number k labels)
relabelled input label after labels k there alike = by_eq after.number k
    (λ same t. ap (led_by input) (subst (λ n. at label_number n (put label_number after labels) ≡ Some after) same (at_put_same label_number after labels label there))
    ∙ (alike same ∙ sym (ap (led_by input) (subst (λ n. at label_number n labels ≡ Some label) same there))))
    (λ differ t. ap (led_by input) (at_put_other label_number after k labels differ))

entered_other : (y : Label) (k : ℕ) (xs : List Label) → y.number ≢ k → at label_number k (entered (key_le label_number) y xs) ≡ at label_number k xs
entered_other y k [] differ = ap (λ (b : Bool). if b then Some y else None) (none y.number k differ)
  where
    none : (a b : ℕ) → a ≢ b → nat_eq a b ≡ false
    none a b e = grind (arith, nat_tests)
entered_other y k (x ∷ xs) differ = by (nat_le y.number x.number) (entered_other y k xs differ)
  where
    none : (a b : ℕ) → a ≢ b → nat_eq a b ≡ false
    none a b e = grind (arith, nat_tests)

    by : (t : Bool) → at label_number k (entered (key_le label_number) y xs) ≡ at label_number k xs
        → at label_number k (if t then y ∷ x ∷ xs else x ∷ entered (key_le label_number) y xs) ≡ at label_number k (x ∷ xs)
    by true behind = ap (λ (b : Bool). if b then Some y else at label_number k (x ∷ xs)) (none y.number k differ)
    by false behind = ap (λ (o : Option Label). if nat_eq x.number k then Some x else o) behind

entered_there : (y : Label) (xs : List Label) → at label_number y.number xs ≡ None → at label_number y.number (entered (key_le label_number) y xs) ≡ Some y
entered_there y [] spare = ap (λ (b : Bool). if b then Some y else None) (same y.number)
  where
    same : (a : ℕ) → nat_eq a a ≡ true
    same a = grind (arith, nat_tests)
entered_there y (x ∷ xs) spare = by (nat_le y.number x.number) (λ e. entered_there y xs e)
  where
    same : (a : ℕ) → nat_eq a a ≡ true
    same a = grind (arith, nat_tests)

    by_head : (b : Bool) → (at label_number y.number xs ≡ None → at label_number y.number (entered (key_le label_number) y xs) ≡ Some y)
        → (if b then Some x else at label_number y.number xs) ≡ None
        → (if b then Some x else at label_number y.number (entered (key_le label_number) y xs)) ≡ Some y
    by_head true behind e = absurd (cc e)
    by_head false behind e = behind e

    by : (t : Bool) → (at label_number y.number xs ≡ None → at label_number y.number (entered (key_le label_number) y xs) ≡ Some y)
        → at label_number y.number (if t then y ∷ x ∷ xs else x ∷ entered (key_le label_number) y xs) ≡ Some y
    by true behind = ap (λ (b : Bool). if b then Some y else at label_number y.number (x ∷ xs)) (same y.number)
    by false behind = by_head (nat_eq x.number y.number) behind spare

pub newly_labelled : (input : End) (new : Label) (labels : List Label) (k : ℕ) → at label_number new.number labels ≡ None → led_in input new new.state ≡ None
    → led_by input (at label_number k (entered (key_le label_number) new labels)) ≡ led_by input (at label_number k labels)
newly_labelled input new labels k spare nowhere = by_eq new.number k
    (λ same t. ap (led_by input) (subst (λ n. at label_number n (entered (key_le label_number) new labels) ≡ Some new) same (entered_there new labels spare))
    ∙ (nowhere ∙ sym (ap (led_by input) (subst (λ n. at label_number n labels ≡ None) same spare))))
    (λ differ t. ap (led_by input) (entered_other new k labels differ))

-- *Grants*: one is put in the place of its like; a new one stands last
pub regranted : (grant after : Grant) (grants : List Grant) (o : Option ℕ) → at grant_label after.label grants ≡ Some grant
    → (o ≡ Some after.label → is_led_out after.state ≡ is_led_out grant.state) → is_out (put grant_label after grants) o ≡ is_out grants o
regranted grant after grants None there alike = refl
regranted grant after grants (Some k) there alike = by_eq after.label k
    (λ same t. ap found (subst (λ n. at grant_label n (put grant_label after grants) ≡ Some after) same (at_put_same grant_label after grants grant there))
    ∙ (alike (ap (λ (n : ℕ). Some n) (sym same)) ∙ sym (ap found (subst (λ n. at grant_label n grants ≡ Some grant) same there))))
    (λ differ t. ap found (at_put_other grant_label after k grants differ))
  where
    found : Option Grant → Bool
    found o = option_map_or (λ (g : Grant). is_led_out g.state) o false

module _ (new : Grant) (k : ℕ) (idle : is_led_out new.state ≡ false) where
  last_granted : (b : Bool) → option_map_or (λ (g : Grant). is_led_out g.state) (if b then Some new else None) false ≡ false
  last_granted true = idle
  last_granted false = refl

  more_granted : (xs : List Grant) → at grant_label new.label xs ≡ None
      → option_map_or (λ (g : Grant). is_led_out g.state) (at grant_label k (xs ++ new ∷ [])) false ≡ option_map_or (λ (g : Grant). is_led_out g.state) (at grant_label k xs) false
  more_granted [] e = last_granted (nat_eq new.label k)
  more_granted (x ∷ xs) e = by (nat_eq x.label k) (more_granted xs (behind (nat_eq x.label new.label) (at grant_label new.label xs) e))
    where
      behind : (b : Bool) (o : Option Grant) → (if b then Some x else o) ≡ None → o ≡ None
      behind true o e = absurd (cc e)
      behind false o e = e

      by : (b : Bool) → option_map_or (λ (g : Grant). is_led_out g.state) (at grant_label k (xs ++ new ∷ [])) false ≡ option_map_or (λ (g : Grant). is_led_out g.state) (at grant_label k xs) false
          → option_map_or (λ (g : Grant). is_led_out g.state) (if b then Some x else at grant_label k (xs ++ new ∷ [])) false
          ≡ option_map_or (λ (g : Grant). is_led_out g.state) (if b then Some x else at grant_label k xs) false
      by true e = refl
      by false e = e

pub newly_granted : (new : Grant) (grants : List Grant) (o : Option ℕ) → at grant_label new.label grants ≡ None → is_led_out new.state ≡ false → is_out (grants ++ new ∷ []) o ≡ is_out grants o
newly_granted new grants None spare idle = refl
newly_granted new grants (Some k) spare idle = more_granted new k idle grants spare

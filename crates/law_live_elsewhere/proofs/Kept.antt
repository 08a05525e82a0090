-- nodes in the place of others, with the same ports

use Rattle.std.proofs.Common.{◌≡◌, ◌≢◌, ℕ, List, Option, Some, refl, sym, ◌∙◌, ap, subst}
use Rattle.world_model.specs.Words.{PortNo, at, put, Controller, Linked, linked_at, port_key, Site, site_key}
use Rattle.world_model.proofs.Lists.{by_eq, at_put_same, at_put_other}

-- *A port is kept*, whatever waits in its chains
pub record KeptAt (linked : Linked) (now : Option Linked) : Type 0 where
  pub after : Linked
  pub there : now ≡ Some after
  pub setup : after.setup ≡ linked.setup
  pub port : after.port ≡ linked.port

pub record KeepsController (a b : Controller) : Type 0 where
  pub ports : (port : PortNo) (linked : Linked) → linked_at a port ≡ Some linked → KeptAt linked (linked_at b port)
  pub address : b.address ≡ a.address

pub same_ports : (a b : Controller) → b.ports ≡ a.ports → b.address ≡ a.address → KeepsController a b
same_ports a b ports address = record {
  ports = λ port linked found. record { after = linked; there = ap (at port_key port.0) ports ∙ found; setup = refl; port = refl };
  address = address;
}

-- one port in the place of another
pub one_linked : (x y : Linked) → Some x ≡ Some y → x ≡ y
one_linked x y e = cc

pub port_put : (a b : Controller) (old new : Linked) → linked_at a old.setup.port ≡ Some old → new.setup ≡ old.setup → new.port ≡ old.port → b.ports ≡ put port_key new a.ports → b.address ≡ a.address
    → KeepsController a b
port_put a b old new found setup port ports address = record { ports = each; address = address }
  where
    key : port_key new ≡ port_key old
    key = ap (λ s. s.port.0) setup

    here : at port_key (port_key old) b.ports ≡ Some new
    here = ap (at port_key (port_key old)) ports
        ∙ subst (λ k. at port_key k (put port_key new a.ports) ≡ Some new) key (at_put_same port_key new a.ports old (ap (λ k. at port_key k a.ports) key ∙ found))

    each : (q : PortNo) (linked : Linked) → linked_at a q ≡ Some linked → KeptAt linked (linked_at b q)
    each q linked there = by_eq (port_key old) q.0
        (λ same t. subst (λ (l : Linked). KeptAt l (linked_at b q)) (one_linked old linked (sym found ∙ (ap (λ k. at port_key k a.ports) same ∙ there)))
        (record { after = new; there = ap (λ k. at port_key k b.ports) (sym same) ∙ here; setup = setup; port = port }))
        (λ differs t. record {
          after = linked;
          there = ap (at port_key q.0) ports ∙ (at_put_other port_key new q.0 a.ports (λ e. differs (sym key ∙ e)) ∙ there);
          setup = refl;
          port = refl;
        })

-- *A node is kept*, among all
pub record KeepsNode (site : Site) (now : Option Site) : Type 0 where
  pub after : Site
  pub there : now ≡ Some after
  pub controller : KeepsController site.controller after.controller

abbrev pub KeepsSites : List Site → List Site → ℕ → Type 0
KeepsSites sites after k = (site : Site) → at site_key k sites ≡ Some site → KeepsNode site (at site_key k after)

pub sites_same : (sites : List Site) (k : ℕ) → KeepsSites sites sites k
sites_same sites k site found = record { after = site; there = found; controller = same_ports site.controller site.controller refl refl }

pub sites_then : (one next last : List Site) (k : ℕ) → KeepsSites one next k → KeepsSites next last k → KeepsSites one last k
sites_then one next last k p q site found = record {
  after = after.after;
  there = after.there;
  controller = record {
    ports = λ port linked there. both port linked (first.controller.ports port linked there);
    address = after.controller.address ∙ first.controller.address;
  };
}
  where
    first : KeepsNode site (at site_key k next)
    first = p site found

    after : KeepsNode first.after (at site_key k last)
    after = q first.after first.there

    both : (port : PortNo) (linked : Linked) → KeptAt linked (linked_at first.after.controller port) → KeptAt linked (linked_at after.after.controller port)
    both port linked one = record { after = then.after; there = then.there; setup = then.setup ∙ one.setup; port = then.port ∙ one.port }
      where
        then : KeptAt one.after (linked_at after.after.controller port)
        then = after.controller.ports port one.after one.there

one_site : (x y : Site) → Some x ≡ Some y → x ≡ y
one_site x y e = cc

-- one node in the place of another, that has the same ports, or isn't this one
pub site_put : (sites : List Site) (n : ℕ) (old new : Site) → at site_key n sites ≡ Some old → site_key new ≡ n → KeepsController old.controller new.controller
    → (k : ℕ) → KeepsSites sites (put site_key new sites) k
site_put sites n old new found key keeps k site there = by_eq n k
    (λ same t. record {
      after = new;
      there = subst (λ m. at site_key m (put site_key new sites) ≡ Some new) (key ∙ same)
          (at_put_same site_key new sites old (ap (λ m. at site_key m sites) key ∙ found));
      controller = subst (λ (s : Site). KeepsController s.controller new.controller) (one_site old site (sym found ∙ (ap (λ m. at site_key m sites) same ∙ there))) keeps;
    })
    (λ differs t. record {
      after = site;
      there = at_put_other site_key new k sites (λ e. differs (sym key ∙ e)) ∙ there;
      controller = same_ports site.controller site.controller refl refl;
    })

pub site_put_elsewhere : (sites : List Site) (n : ℕ) (new : Site) → site_key new ≡ n → (k : ℕ) → n ≢ k → KeepsSites sites (put site_key new sites) k
site_put_elsewhere sites n new key k differs site there = record {
  after = site;
  there = at_put_other site_key new k sites (λ e. differs (sym key ∙ e)) ∙ there;
  controller = same_ports site.controller site.controller refl refl;
}

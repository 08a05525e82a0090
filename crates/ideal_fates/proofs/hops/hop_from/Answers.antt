use Rattle.std.proofs.Common.{◌∙◌, ap}
use Rattle.ipv4_forward.specs.Hop.{hop_of}
use Rattle.world_model.specs.Fates.{IsDelivered}
use Rattle.script_model.specs.State.{table_among}
use Rattle.ideal_fates.proofs.Hopping.{ends_here, ends_without_route, ends_expired, ends_unlinked, goes_on}
use Rattle.ideal_fates.proofs.hops.hop_from.Goals as goal

pub returns-in-Here : goal.returns-in-Here
returns-in-Here c =
    let packet = c.args.packet.now in
    let is = c.in-Here.ensures.hop ∙ ap (λ t. hop_of t packet) c.of.ensures in
    ap (IsDelivered c.args.node) c.in-Here.ensures.hopped
    ∙ ends_here c.args.topology.now (table_among c.args.tables.now) c.args.node packet c.requires.packet.has_header is

pub returns-in-NoRoute : goal.returns-in-NoRoute
returns-in-NoRoute c =
    let packet = c.args.packet.now in
    let is = c.in-NoRoute.ensures.hop ∙ ap (λ t. hop_of t packet) c.of.ensures in
    ends_without_route c.args.topology.now (table_among c.args.tables.now) c.args.node packet c.requires.packet.has_header is

pub returns-in-Expired : goal.returns-in-Expired
returns-in-Expired c =
    let packet = c.args.packet.now in
    let is = c.in-Expired.ensures.hop ∙ ap (λ t. hop_of t packet) c.of.ensures in
    ends_expired c.args.topology.now (table_among c.args.tables.now) c.args.node packet c.requires.packet.has_header is

pub returns-in-Some : goal.returns-in-Some
returns-in-Some c =
    let packet = c.args.packet.now in
    let is = c.in-On.ensures.hop ∙ ap (λ t. hop_of t packet) c.of.ensures in
    goes_on c.args.topology.now (table_among c.args.tables.now) c.args.node packet c.requires.packet.has_header c.requires.topology
    c.in-On.port is c.in-Some.far c.in-Some.field-0-1 c.in-Some.ensures c.hop.new.packet c.in-On.ensures.hopped c.hop.ensures.packet

pub returns-in-None : goal.returns-in-None
returns-in-None c =
    let packet = c.args.packet.now in
    let is = c.in-On.ensures.hop ∙ ap (λ t. hop_of t packet) c.of.ensures in
    ends_unlinked c.args.topology.now (table_among c.args.tables.now) c.args.node packet c.requires.packet.has_header
    c.in-On.port is c.in-None.ensures

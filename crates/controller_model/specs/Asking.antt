-- *Asking*: a request is asked under the next transaction number, in Estab alone. Where that would be the
-- last number, the node is reset.

use Rattle.std.specs.Prelude.{◌==◌, if◌then◌else◌}
use Rattle.net_types.specs.declared.channel.End.{End}
use Rattle.port_model.specs.adjacency_table.Side.{is_estab}
use Rattle.port_model.specs.gsmp_wire.declared.request.Request.{Request}
use Rattle.port_model.specs.gsmp_wire.declared.request.Request.TheVariants.{MoveBranch}
use Rattle.port_model.specs.Desk.{Standing, asked, withdrawn, is_led_home, message_at, last_transaction}
use Rattle.port_model.specs.Setup.{home_of}
use Rattle.controller_model.specs.Controller.{Acted, with_desk}
use Rattle.controller_model.specs.Sending.{says_gsmp}
use Rattle.controller_model.specs.Resets.{node_resets}

-- a request is sent, or sent again
abbrev pub sends_request : Acted → Standing → Acted
sends_request a s = says_gsmp a (message_at a.controller.desk s)

abbrev pub asks_next : Acted → Request → Acted
asks_next a request =
    sends_request (with_desk a (asked a.controller.desk request)) (record { number = a.controller.desk.next; request = request })

abbrev pub asks : Acted → Request → Acted
asks a request =
    if is_estab a.controller.adjacency.state
    then (if a.controller.desk.next == last_transaction then node_resets a else asks_next a request)
    else a

-- *A join is taken back* by Move Branch to the control link, unless its input is led there already
abbrev pub takes_back : Acted → (input output : End) → Acted
takes_back a input output =
    if is_led_home a.controller.desk input (home_of input) then a else asks a (MoveBranch input output (home_of input))

abbrev pub withdraws_input : Acted → (input : End) → Acted
withdraws_input a input = with_desk a (withdrawn a.controller.desk input)

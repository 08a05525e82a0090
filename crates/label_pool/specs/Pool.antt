-- What a pool of labels is seen as (RFC 1953)

use Rattle.std.specs.Prelude.{◌≡◌, ℕ, Bool, ◌+◌, ◌-◌, ◌≤◌, ◌&&◌, nat_le, List, filter, find, Option}
use Rattle.std.specs.List.{range_with_len}
use Rattle.net_types.specs.declared.number.Instance.{Instance}
use Rattle.net_types.specs.declared.channel.Channel.{Channel}
use Rattle.net_types.specs.Label.{is_label_number, label_channel_of}
use Rattle.keyed_lists.specs.Keyed.{without, entered}
use Rattle.branch_desk.specs.port_model.Setup.{is_between}
use Rattle.label_pool.specs.Tag.{Tag}

-- the instance of the adjacency for which it was opened, the range of its labels by their numbers, the
-- two channels between which labels are handed out, and the spare labels, the lowest first
pub record Pool : Type 0 where
  pub instance : Instance
  pub least : ℕ
  pub greatest : ℕ
  pub from : Channel
  pub to : Channel
  pub spare : List ℕ

-- all labels of a range, as those of a port of this range
abbrev pub is_label_between : (least greatest number : ℕ) → Bool
is_label_between least greatest number = is_label_number number && (nat_le least number && nat_le number greatest)

abbrev pub labels_between : (least greatest : ℕ) → List ℕ
labels_between least greatest =
    filter (is_label_between least greatest) (range_with_len least (greatest + 1 - least))

-- a pool at its opening: all labels of the range are spare
abbrev pub opened : Instance → (least greatest : ℕ) → Pool
opened instance least greatest = record {
  instance = instance;
  least = least;
  greatest = greatest;
  from = label_channel_of least;
  to = label_channel_of greatest;
  spare = labels_between least greatest;
}

-- a label can be handed out where its channel lies between the two
abbrev pub is_offered_by : Pool → (number : ℕ) → Bool
is_offered_by pool number = is_between pool.from pool.to (label_channel_of number)

abbrev pub lowest : Pool → Option ℕ
lowest pool = find (is_offered_by pool) pool.spare

-- a label isn't spare any more, and is spare again
abbrev pub taken : Pool → (number : ℕ) → Pool
taken pool number = record pool { spare = without (λ n. n) number pool.spare }

abbrev pub given_back : Pool → (number : ℕ) → Pool
given_back pool number = record pool { spare = entered nat_le number pool.spare }

-- a label of this pool
pub record IsOf (pool : Pool) {S : Type 0} (label : Tag S) : Type 0 where
  pub instance : label.instance ≡ pool.instance
  pub least : pool.least ≤ label.number
  pub greatest : label.number ≤ pool.greatest

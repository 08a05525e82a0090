-- How many octets options and bodies have

use Rattle.std.proofs.Common.{◌≡◌, ℕ, zero, suc, ◌+◌, ◌/◌, ◌%◌, ◌^◌, ◌≤◌, List, [], ◌∷◌, ◌++◌, length, take, refl, sym, ap, ◌∙◌, arith}
use Rattle.std.specs.Prelude.{min, replicate, flat_map}
use Rattle.std.proofs.lemmas.List.{length-append, length-replicate, length-take}
use Rattle.std.proofs.lemmas.List.Concat.{flat_map-cons}
use Rattle.pcapng_blocks.specs.Blocks.{BlockOption, held_of, if_description, if_name, if_tsresol, interface_body, number_16, number_32, opt_comment, opt_endofopt, option_code, option_octets, options_octets, packet_body, pad_length, padded, section_body, shb_userappl, sized_octets, time_octets}
use Rattle.pcapng_blocks.specs.Lengths.{option_length, padded_length}

pub zeros : (count : ℕ) → count ≤ 3 → take {A = ℕ} count (0 ∷ 0 ∷ 0 ∷ []) ≡ replicate {A = ℕ} count 0
zeros zero h = refl
zeros (suc zero) h = refl
zeros (suc (suc zero)) h = refl
zeros (suc (suc (suc zero))) h = refl
zeros (suc (suc (suc (suc count)))) h = absurd (omega (arith, h))

length-number_16 : (number : ℕ) → length (number_16 number) ≡ 2
unfolding number_16
length-number_16 number = refl

length-number_32 : (number : ℕ) → length (number_32 number) ≡ 4
unfolding number_32
length-number_32 number = refl

-- a number of so many bits stands before others
behind_16 : (number : ℕ) (others : List ℕ) → length (number_16 number ++ others) ≡ 2 + length others
behind_16 number others = length-append (number_16 number) others ∙ ap (λ n. n + length others) (length-number_16 number)

behind_32 : (number : ℕ) (others : List ℕ) → length (number_32 number ++ others) ≡ 4 + length others
behind_32 number others = length-append (number_32 number) others ∙ ap (λ n. n + length others) (length-number_32 number)

length-padded : (octets : List ℕ) → length (padded octets) ≡ padded_length (length octets)
unfolding padded
length-padded octets =
    length-append octets (replicate (pad_length (length octets)) 0)
    ∙ ap (λ n. length octets + n) (length-replicate (pad_length (length octets)) 0)

length-held : (value : List ℕ) → length (padded (held_of value)) ≡ padded_length (min 65535 (length value))
length-held value = length-padded (held_of value) ∙ ap padded_length (length-take 65535 value)

length-option : (item : BlockOption) → length (option_octets item) ≡ 4 + length (padded (held_of item.value))
unfolding option_octets
length-option item =
    let held = held_of item.value in
    omega (arith, behind_16 (option_code item.code) (number_16 (length held) ++ padded held), behind_16 (length held) (padded held))

length-end : length opt_endofopt ≡ 4
length-end = behind_16 0 (number_16 0) ∙ ap (λ n. 2 + n) (length-number_16 0)

-- the options of a block, and their end
length-options_none : length (options_octets []) ≡ 4
length-options_none = length-end

length-options : (item : BlockOption) (items : List BlockOption) → length (options_octets (item ∷ items)) ≡ length (option_octets item) + length (options_octets items)
length-options item items =
    let first = option_octets item in
    let others = flat_map option_octets items in
    ap length (ap (λ octets. octets ++ opt_endofopt) (flat_map-cons option_octets item items))
    ∙ omega (arith, length-append (first ++ others) opt_endofopt, length-append first others, length-append others opt_endofopt)

-- an option, as code counts it
option_is : (item : BlockOption) → length (option_octets item) ≡ option_length (length item.value)
option_is item = length-option item ∙ ap (λ n. 4 + n) (length-held item.value)

-- *The length of a block*
pub section_length : (name : List ℕ) → length (section_body (shb_userappl name ∷ [])) + 12 ≡ 12 + 16 + option_length (length name) + 4
section_length name =
    let options = options_octets (shb_userappl name ∷ []) in
    let fixed = replicate 8 255 ++ options in
    omega (arith, behind_32 0x1A2B3C4D (number_16 1 ++ (number_16 0 ++ fixed)), behind_16 1 (number_16 0 ++ fixed), behind_16 0 fixed, length-append (replicate 8 255) options, length-options (shb_userappl name) [], option_is (shb_userappl name), length-options_none)

pub interface_length : (link_type resolution : ℕ) (name description : List ℕ)
    → length (interface_body link_type (if_name name ∷ if_description description ∷ if_tsresol resolution ∷ [])) + 12
    ≡ 12 + 8 + (option_length (length name) + option_length (length description) + option_length 1) + 4
interface_length link_type resolution name description =
    let one = if_name name in
    let two = if_description description in
    let three = if_tsresol resolution in
    let options = options_octets (one ∷ two ∷ three ∷ []) in
    omega (arith, behind_16 link_type (number_16 0 ++ (number_32 0 ++ options)), behind_16 0 (number_32 0 ++ options), behind_32 0 options, length-options one (two ∷ three ∷ []), length-options two (three ∷ []), length-options three [], option_is one, option_is two, option_is three, length-options_none)

length-time : (timestamp : ℕ) → length (time_octets timestamp) ≡ 8
unfolding time_octets
length-time timestamp =
    behind_32 (timestamp / 2 ^ 32) (number_32 (timestamp % 2 ^ 32)) ∙ ap (λ n. 4 + n) (length-number_32 (timestamp % 2 ^ 32))

length-sized : (packet : List ℕ) → length (sized_octets packet) ≡ 8 + padded_length (length packet)
unfolding sized_octets
length-sized packet =
    let size = number_32 (length packet) in
    omega (arith, behind_32 (length packet) (size ++ padded packet), behind_32 (length packet) (padded packet), length-padded packet)

pub packet_length : (interface timestamp : ℕ) (packet comment : List ℕ)
    → length (packet_body interface timestamp packet (opt_comment comment ∷ [])) + 12
    ≡ 12 + (20 + padded_length (length packet)) + option_length (length comment) + 4
packet_length interface timestamp packet comment =
    let options = options_octets (opt_comment comment ∷ []) in
    let time = time_octets timestamp in
    let sized = sized_octets packet in
    omega (
      arith,
      behind_32 interface (time ++ (sized ++ options)),
      length-append time (sized ++ options),
      length-append sized options,
      length-time timestamp,
      length-sized packet,
      length-options (opt_comment comment) [],
      option_is (opt_comment comment),
      length-options_none,
    )

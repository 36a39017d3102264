-- Keys by key ID, in whatever form they are kept.
use Rattle.wot_types.specs.Keyring.{Keyring}
use Rattle.wot_listing.specs.declared.block_keys.KeptKeys.{KeptKeys}
use Rattle.wot_listing.specs.declared.block_keys.KeptKeys.TheVariants.{Placed, Rising}

abbrev pub keys_of_kept : KeptKeys → Keyring
keys_of_kept (Rising keys) = keys
keys_of_kept (Placed keys) = keys

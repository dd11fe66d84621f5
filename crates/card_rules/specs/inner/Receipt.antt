-- The answer of `receive` as the function that tells it takes it apart.
use Rattle.std.specs.Prelude.{List, ℕ}
use Rattle.receiver_rules.specs.declared.Received.{Received}
use Rattle.receiver_rules.specs.declared.Received.TheVariants.{Kept, Delivered, Damaged}
use Rattle.card_rules.specs.Receiving.{receipt_told}

-- what is told of it: a packet is handed out only where it was delivered
unfoldable pub received_told : Received → List ℕ
received_told (Kept d) = receipt_told 0 0 0 d
received_told (Delivered length missing d) = receipt_told 1 length missing d
received_told (Damaged d) = receipt_told 0 0 0 d

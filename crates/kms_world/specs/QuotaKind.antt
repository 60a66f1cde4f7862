-- Kinds of quotas, as they are printed.
use Rattle.std.specs.Prelude.{ℕ, List, codes}
use Rattle.kms_world.specs.declared.quota.QuotaKind.{QuotaKind}
use Rattle.kms_world.specs.declared.quota.QuotaKind.TheVariants.{Secrets, Orders, Containers, Consumers}

abbrev pub word_of : QuotaKind → List ℕ
word_of Secrets = codes "secrets"
word_of Orders = codes "orders"
word_of Containers = codes "containers"
word_of Consumers = codes "consumers"

-- Actions, as they are printed.
use Rattle.std.specs.Prelude.{ℕ, List, codes}
use Rattle.kms_world.specs.declared.action.Action.{Action}
use Rattle.kms_world.specs.declared.action.Action.TheVariants.{SecretCreate, ContainerCreate, OrderCreate, SecretList, ContainerList, OrderList, SecretGet, ContainerGet, ConsumerGet, SecretDecrypt, ConsumerWrite, SecretWrite, SecretDelete, ContainerWrite, ContainerDelete, AclWrite, AclGet, OrderGet, OrderDelete, QuotaGet, QuotaAdmin}

abbrev pub word_of : Action → List ℕ
word_of SecretCreate = codes "secret:create"
word_of ContainerCreate = codes "container:create"
word_of OrderCreate = codes "order:create"
word_of SecretList = codes "secret:list"
word_of ContainerList = codes "container:list"
word_of OrderList = codes "order:list"
word_of SecretGet = codes "secret:get"
word_of ContainerGet = codes "container:get"
word_of ConsumerGet = codes "consumer:get"
word_of SecretDecrypt = codes "secret:decrypt"
word_of ConsumerWrite = codes "consumer:write"
word_of SecretWrite = codes "secret:write"
word_of SecretDelete = codes "secret:delete"
word_of ContainerWrite = codes "container:write"
word_of ContainerDelete = codes "container:delete"
word_of AclWrite = codes "acl:write"
word_of AclGet = codes "acl:get"
word_of OrderGet = codes "order:get"
word_of OrderDelete = codes "order:delete"
word_of QuotaGet = codes "quota:get"
word_of QuotaAdmin = codes "quota:admin"
